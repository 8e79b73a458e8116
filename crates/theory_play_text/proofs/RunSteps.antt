-- The steps of a run may be printed, and so may what its last configuration keeps.
use Rattle.std.proofs.Common.{◌≡◌, ℕ, ◌≤◌, List, [], ◌∷◌, ◌++◌, map, Bool, true, false, Option, Some, None, refl}
use Rattle.std.proofs.Common.{◌∙◌, arith}
use Rattle.std.specs.Prelude.{if◌then◌else◌, ◌&&◌}
use Rattle.std.specs.List.{list_all, filter, AllByRecursion}
use Rattle.std.specs.Str.{bytes_eq}
use Rattle.std.proofs.lemmas.Bool.{and_parts}
use Rattle.spec_terms.specs.Term as term
use Rattle.spec_terms.specs.Term.{put_reveal, withdraw, split, auth, after}
use Rattle.spec_terms.specs.Core.{core}
use Rattle.spec_terms.specs.Precondition.{Holding, persistent}
use Rattle.spec_terms.specs.Readable.{is_name}
use Rattle.spec_bitcoin.specs.declared.tx.TxOut.{TxOut}
use Rattle.spec_bitcoin.specs.declared.tx.Tx.{Tx}
use Rattle.spec_calculus.specs.declared.step.Owner.{Owner}
use Rattle.spec_calculus.specs.declared.step.Owner.TheVariants.{Party}
use Rattle.spec_calculus.specs.declared.step.Step.{Step}
use Rattle.spec_calculus.specs.declared.step.Step.TheVariants as steps
use Rattle.spec_calculus.specs.Configuration.{Configuration}
use Rattle.spec_calculus.specs.Steps.{effect, after_steps}
use Rattle.spec_run.specs.declared.event.Event.{Event}
use Rattle.spec_run.specs.declared.event.Event.TheVariants as events
use Rattle.spec_run.specs.declared.outcome.Outcome.{Outcome}
use Rattle.spec_run.specs.declared.outcome.Outcome.TheVariants as outcomes
use Rattle.spec_run.specs.Setup.{Setup, people_at, pre_at}
use Rattle.spec_run.specs.World.{World}
use Rattle.spec_run.specs.Owners.{owner_among, paid_to}
use Rattle.spec_run.specs.Ledger.{Kind, Begins, Takes, Moves, kind_of, position_branch}
use Rattle.spec_run.specs.Steps.{reveal_step, reveals, moved_output, move_of, auth_move, parties_once, owners_of, auth_inits}
use Rattle.spec_run.specs.Steps.{unauthorised, auth_branch, is_awaited, core_step, branch_steps, kind_steps, accepted_steps}
use Rattle.spec_run.specs.Steps.{is_of_party, is_bound_live}
use Rattle.spec_run.specs.Steps.{done_steps, outcome_steps}
use Rattle.spec_run.specs.Event.{Passed}
use Rattle.spec_run.specs.Translation.{Turn, turns_from, turn_of, in_order}
use Rattle.theory_play_text.specs.Printable.{IsOwner, IsNamed}
use Rattle.theory_play_text.proofs.Named.{AllNamed}
use Rattle.theory_play_text.proofs.LegalSteps.{MovesToNamed, by_append}

-- ---- whom a move pays

pub owner_named : (s : Setup) (parties : List (List ℕ)) (script : List ℕ) → AllNamed parties → IsOwner (owner_among s parties script)
owner_named s [] script h = tt
owner_named s (p ∷ ps) script h =
    let n = and_parts (is_name p) (list_all is_name ps) h in
    by_test (bytes_eq (paid_to s p) script) n.0 (owner_named s ps script n.1)
  where
    by_test : (t : Bool) → IsNamed p → IsOwner (owner_among s ps script) → IsOwner (if t then Party p else owner_among s ps script)
    by_test true k r = k
    by_test false k r = r

abbrev AllMove : List Step → Type 0
AllMove ss = AllByRecursion MovesToNamed ss

each_moves : {X : Type 0} (f : X → Step) → ((x : X) → MovesToNamed (f x)) → (xs : List X) → AllMove (map f xs)
each_moves f h [] = tt
each_moves f h (x ∷ xs) = (h x, each_moves f h xs)

module _ (s : Setup) (named : AllNamed s.header.parties) where
  outputs_named : (os : List TxOut) → AllByRecursion (λ (o : Owner × ℕ). IsOwner (o.0)) (map (moved_output s) os)
  outputs_named [] = tt
  outputs_named (o ∷ os) = (owner_named s s.header.parties o.script named, outputs_named os)

  reveals_move : (w next : World) → AllMove (reveals s w next)
  reveals_move w next = each_moves reveal_step (λ x. tt) _

  auths_move : (contract : ℕ) (ds : List (List ℕ × Holding)) → AllMove (auth_inits contract ds)
  auths_move contract [] = tt
  auths_move contract (d ∷ ds) = (tt, auths_move contract ds)

  core_moves : (output branch : ℕ) (c : term.Guarded) → AllMove (core_step output branch c)
  core_moves output branch (put_reveal puts reveals test next) = (tt, tt)
  core_moves output branch (withdraw party) = (tt, tt)
  core_moves output branch (split parts) = (tt, tt)
  core_moves output branch (auth party body) = tt
  core_moves output branch (after height body) = tt

  branch_moves : (g : Configuration) (people : List (List ℕ)) (output branch : ℕ) (b : Option term.Guarded)
      → AllMove (branch_steps g people output branch b)
  branch_moves g people output branch None = tt
  branch_moves g people output branch (Some b) =
      by_append MovesToNamed _ _ (each_moves (auth_branch output branch) (λ x. tt) (filter (is_awaited g output branch b) people))
      (core_moves output branch (core b))

  kind_moves : (g : Configuration) (w : World) (tx : Tx) (spent : List ℕ) (k : Kind) → AllMove (kind_steps s g w tx spent k)
  kind_moves g w tx spent (Begins contract) =
      let last : AllMove (steps.Init contract ∷ []) = (tt, tt) in
      let ds = unauthorised g contract (persistent (pre_at s contract)) in
      by_append MovesToNamed (auth_inits contract ds) (steps.Init contract ∷ []) (auths_move contract ds) last
  kind_moves g w tx spent (Takes held output branch) =
      branch_moves g (people_at s held.contract) output branch (position_branch s held branch)
  kind_moves g w tx spent Moves =
      let last : AllMove (steps.Move (move_of s tx spent) ∷ []) = (outputs_named tx.outputs, tt) in
      by_append MovesToNamed _ (steps.Move (move_of s tx spent) ∷ [])
      (each_moves (auth_move (move_of s tx spent)) (λ x. tt) (parties_once (owners_of s w spent))) last

  accepted_moves : (g : Configuration) (w next : World) (spent : List ℕ) (tx : Option Tx) → AllMove (accepted_steps s g w next spent tx)
  accepted_moves g w next spent None = tt
  accepted_moves g w next spent (Some tx) =
      by_append MovesToNamed _ _ (reveals_move w next) (kind_moves g w tx spent (kind_of s w tx spent))

  done_moves : (strings : List (List ℕ)) (w next : World) (e : Event) → AllMove (done_steps s strings w next e)
  done_moves strings w next (events.Advertise contract bindings) = (tt, tt)
  done_moves strings w next (events.Commit contract party digests) = (tt, reveals_move w next)
  done_moves strings w next (events.Endorse contract party) = tt
  done_moves strings w next (events.Init contract party) =
      auths_move contract (filter (λ d. is_of_party party d && is_bound_live w contract d) (persistent (pre_at s contract)))
  done_moves strings w next (events.Authorise party output branch) = (tt, tt)
  done_moves strings w next (events.Reveal contract party secret) = reveals_move w next
  done_moves strings w next (events.Post bytes) = reveals_move w next
  done_moves strings w next (events.Sign party label digest) = tt
  done_moves strings w next (events.Give party inputs outputs) = tt
  done_moves strings w next (events.Append bytes) = tt
  done_moves strings w next (events.FireInit contract) = tt
  done_moves strings w next (events.Fire output branch) = tt
  done_moves strings w next (events.Mine blocks) = (tt, tt)

  outcome_moves : (strings : List (List ℕ)) (g : Configuration) (w next : World) (e : Event) (tx : Option Tx) (o : Outcome)
      → AllMove (outcome_steps s strings g w next e tx o)
  outcome_moves strings g w next e tx outcomes.Done = done_moves strings w next e
  outcome_moves strings g w next e tx (outcomes.Accepted spent made lock) = accepted_moves g w next spent tx
  outcome_moves strings g w next e tx (outcomes.Refused r) = tt

  -- all moves of a run pay declared parties, or somebody outside
  pub turns_move : (strings : List (List ℕ)) (ps : List Passed) (g : Configuration) (w : World)
      → AllMove (in_order (map (λ (t : Turn). t.steps) (turns_from s strings g w ps)))
  turns_move strings [] g w = tt
  turns_move strings (p ∷ ps) g w =
      let t = turn_of s strings g w p in
      by_append MovesToNamed t.steps _ (outcome_moves strings g w p.world p.event p.pending.tx p.pending.outcome)
      (turns_move strings ps t.configuration t.world)

-- ---- numbers only grow

one_grows : (g : Configuration) (st : Step) → g.next ≤ (effect g st).next
one_grows g (steps.Delay n) = omega arith
one_grows g (steps.AuthMove a action) = omega arith
one_grows g (steps.Move action) = omega arith
one_grows g (steps.Advertise k bs) = omega arith
one_grows g (steps.Commit k a ls) = omega arith
one_grows g (steps.AuthInit k a x) = omega arith
one_grows g (steps.Init k) = omega arith
one_grows g (steps.Reveal k a x) = omega arith
one_grows g (steps.AuthBranch a n i) = omega arith
one_grows g (steps.PutReveal n i) = omega arith
one_grows g (steps.Withdraw n i) = omega arith
one_grows g (steps.Split n i) = omega arith

pub next_grows : (ss : List Step) (g : Configuration) → g.next ≤ (after_steps g ss).next
next_grows [] g = omega arith
next_grows (st ∷ ss) g = omega (arith, one_grows g st, next_grows ss (effect g st))

-- the contracts stay
one_stays : (g : Configuration) (st : Step) → (effect g st).contracts ≡ g.contracts
one_stays g (steps.Delay n) = refl
one_stays g (steps.AuthMove a action) = refl
one_stays g (steps.Move action) = refl
one_stays g (steps.Advertise k bs) = refl
one_stays g (steps.Commit k a ls) = refl
one_stays g (steps.AuthInit k a x) = refl
one_stays g (steps.Init k) = refl
one_stays g (steps.Reveal k a x) = refl
one_stays g (steps.AuthBranch a n i) = refl
one_stays g (steps.PutReveal n i) = refl
one_stays g (steps.Withdraw n i) = refl
one_stays g (steps.Split n i) = refl

pub contracts_stay : (ss : List Step) (g : Configuration) → (after_steps g ss).contracts ≡ g.contracts
contracts_stay [] g = refl
contracts_stay (st ∷ ss) g = contracts_stay ss (effect g st) ∙ one_stays g st

-- ---- lists of lists

pub each_list : (P : Step → Type 0) (xss : List (List Step)) → AllByRecursion P (in_order xss) → AllByRecursion (AllByRecursion P) xss
each_list P [] h = tt
each_list P (xs ∷ xss) h = let p = parts xs h in (p.0, each_list P xss p.1)
  where
    parts : (ys : List Step) → AllByRecursion P (ys ++ in_order xss) → AllByRecursion P ys × AllByRecursion P (in_order xss)
    parts [] k = (tt, k)
    parts (y ∷ ys) k = let r = parts ys k.1 in ((k.0, r.0), r.1)
