-- A contract of which an output is there has begun.
use Rattle.std.proofs.Common.{◌≡◌, ℕ, zero, suc, ◌+◌, List, [], ◌∷◌, ◌++◌, Bool, true, false, Option, Some, None, Result, Ok, Err, refl, sym, ap, ◌∙◌, subst}
use Rattle.std.proofs.Common.{inl, inr, ◌⊎◌}
use Rattle.std.specs.Prelude.{◌==◌, ◌||◌, if◌then◌else◌, slice_get}
use Rattle.std.proofs.lemmas.Bool.{or_left, or_right, eq-eqb}
use Rattle.spec_data.specs.Lists.{has_number, first_reason}
use Rattle.spec_terms.specs.Core.{core}
use Rattle.spec_terms.specs.Term as term
use Rattle.spec_terms.specs.declared.path.PathStep.{PathStep}
use Rattle.spec_bitcoin.specs.declared.tx.Tx.{Tx}
use Rattle.spec_bitcoin.specs.declared.tx.TxOut.{TxOut}
use Rattle.spec_bitcoin.specs.declared.verdict.Verdict.{Verdict}
use Rattle.spec_bitcoin.specs.declared.verdict.Verdict.TheVariants as verdicts
use Rattle.spec_bitcoin.specs.Digests.{txid}
use Rattle.spec_bitcoin.specs.Keys.{Pair}
use Rattle.spec_bitcoin.specs.Reading.{transaction_of}
use Rattle.spec_run.specs.declared.event.Event.{Event}
use Rattle.spec_run.specs.declared.event.Event.TheVariants as events
use Rattle.spec_run.specs.declared.outcome.Reason.{Reason}
use Rattle.spec_run.specs.Setup.{Setup}
use Rattle.spec_run.specs.World.{ContractPosition, Output, World, live_position, live_position_at}
use Rattle.spec_run.specs.Advertising.{advertise_row}
use Rattle.spec_run.specs.Committing.{committed_strings, commit_row, digest_row}
use Rattle.spec_run.specs.Compiled.{compiled_instance}
use Rattle.spec_run.specs.Event.{append_read, mine_row, pending, opening_world}
use Rattle.spec_run.specs.Firing.{initial_by, taking_of_position, reaches_if, fire_init_row, fire_row}
use Rattle.spec_run.specs.Giving.{give_row, given_pairs, gift}
use Rattle.spec_run.specs.Ledger.{Kind, Takes, Moves, verdict_in, accepted, judged, reaches, initial_of, first_position, kind_by, begun_after}
use Rattle.spec_compiler.specs.Witness.{chosen_by}
use Rattle.spec_run.specs.Ledger.{first_number, branch_count, first_witness, spend_from, made_from, new_position, core_holds, branch_holds, position_path, position_branch}
use Rattle.spec_run.specs.Pending.{Pending, unless}
use Rattle.spec_run.specs.Revealing.{reveal_row}
use Rattle.spec_run.specs.Signing.{with_pairs, endorse_row, init_row, authorise_row, sign_row}
use Rattle.spec_run.specs.Translation.{last_world}
use Rattle.spec_run.specs.Statements.{Claim, IsRun}
use Rattle.theory_calculus.specs.Members.{Is_in}
use Rattle.theory_calculus.proofs.Members.{in_append}
use Rattle.theory_run.proofs.Following.{Keeps, run_posts, kept_at_end}

-- each contract of which an output is in the list has begun
abbrev pub AreBegun : List Output → List ℕ → Type 0
AreBegun os begun = (o : Output) → Is_in o os → (held : ContractPosition) → o.holds ≡ Some held → has_number held.contract begun ≡ true

HasBegun : World → Type 0
HasBegun w = AreBegun w.outputs w.begun

-- ---- outputs

-- the same is held by what is spent
spent_holds : (k : ℕ) (ns : List ℕ) (os : List Output) (o : Output) → Is_in o (spend_from k ns os) → (p : Output) × Is_in p os × (o.holds ≡ p.holds)
spent_holds k ns [] o h = absurd h
spent_holds k ns (p ∷ os) o (inl e) = (p, inl refl, ap (λ (x : Output). x.holds) e ∙ same (has_number k ns))
  where
    same : (b : Bool) → (if b then record p { live = false } else p).holds ≡ p.holds
    same true = refl
    same false = refl
spent_holds k ns (p ∷ os) o (inr i) = let r = spent_holds (k + 1) ns os o i in (r.0, inr (r.1), r.2)

-- what is made holds what the function says
made_holds : (held : ℕ → Option ContractPosition) (id : List ℕ) (k : ℕ) (os : List TxOut) (o : Output) → Is_in o (made_from held id k os)
    → (j : ℕ) × (o.holds ≡ held j)
made_holds held id k [] o h = absurd h
made_holds held id k (x ∷ os) o (inl e) = (k, ap (λ (y : Output). y.holds) e)
made_holds held id k (x ∷ os) o (inr i) = made_holds held id (k + 1) os o i

abbrev some_position : ContractPosition → Option ContractPosition
some_position p = Some p

-- a position that a branch leads to is of the same contract
core_same : (contract : ℕ) (path : List PathStep) (b : term.Guarded) (k : ℕ) (p : ContractPosition) → core_holds contract path b k ≡ some_position p
    → p.contract ≡ contract
core_same contract path (term.put_reveal puts reveals test next) k p h =
    let z : record { contract = contract; position = path } ≡ p = cc in sym (ap (λ (x : ContractPosition). x.contract) z)
core_same contract path (term.split parts) k p h = cc
core_same contract path (term.withdraw party) k p h = cc
core_same contract path (term.auth party body) k p h = cc
core_same contract path (term.after height body) k p h = cc

branch_same : (contract : ℕ) (path : List PathStep) (b : Option term.Guarded) (k : ℕ) (p : ContractPosition)
    → branch_holds contract path b k ≡ some_position p → p.contract ≡ contract
branch_same contract path None k p h = cc
branch_same contract path (Some b) k p h = core_same contract path (core b) k p h

number-append : (n : ℕ) (xs ys : List ℕ) → has_number n (xs ++ ys) ≡ (has_number n xs || has_number n ys)
number-append n [] ys = refl
number-append n (x ∷ xs) ys = by_test (x == n) (number-append n xs ys)
  where
    by_test : (b : Bool) → has_number n (xs ++ ys) ≡ (has_number n xs || has_number n ys)
        → (b || has_number n (xs ++ ys)) ≡ (b || has_number n xs || has_number n ys)
    by_test true ih = refl
    by_test false ih = ih

-- ---- one event

module _ (s : Setup) (w : World) (kept : HasBegun w) where
  unless_begun : (r : Option Reason) (hashes : List (List ℕ)) (d : Pending) → HasBegun d.world → HasBegun (unless r w hashes d).world
  unfolding HasBegun
  unless_begun None hashes d h = h
  unless_begun (Some r) hashes d h = kept

  -- what is live is begun
  live_begun : (os : List Output) (n : ℕ) (held : ContractPosition) → AreBegun os w.begun → live_position (slice_get os n) ≡ some_position held
      → has_number held.contract w.begun ≡ true
  live_begun [] n held f h = cc
  live_begun (o ∷ os) zero held f h = by_live o.live refl h
    where
      by_live : (b : Bool) → o.live ≡ b → (if b then o.holds else None) ≡ some_position held → has_number held.contract w.begun ≡ true
      by_live true e q = f o (inl refl) held q
      by_live false e q = cc
  live_begun (o ∷ os) (suc n) held f h = live_begun os n held (λ p i. f p (inr i)) h

  first_begun : (spent : List ℕ) (held : ContractPosition) → first_position w spent ≡ some_position held → has_number held.contract w.begun ≡ true
  unfolding HasBegun
  first_begun [] held h = cc
  first_begun (n ∷ ns) held h = live_begun w.outputs n held kept h

  new_same : (held : ContractPosition) (output branch j : ℕ) (p : ContractPosition)
      → new_position s (Takes held output branch) j ≡ some_position p → p.contract ≡ held.contract
  new_same held output branch j p e = branch_same held.contract (position_path held branch) (position_branch s held branch) j p e

  -- after an accepted transaction
  module _ (tx : Tx) (spent : List ℕ) (id : List ℕ) where
    spent_or_made : (k : Kind) (begun : List ℕ) → ((n : ℕ) → has_number n w.begun ≡ true → has_number n begun ≡ true)
        → ((j : ℕ) (p : ContractPosition) → new_position s k j ≡ some_position p → has_number p.contract begun ≡ true)
        → AreBegun (spend_from 0 spent w.outputs ++ made_from (new_position s k) id 0 tx.outputs) begun
    unfolding HasBegun
    spent_or_made k begun more new o i held e = by_part (in_append o (spend_from 0 spent w.outputs) (made_from (new_position s k) id 0 tx.outputs) i)
      where
        by_part : Is_in o (spend_from 0 spent w.outputs) ⊎ Is_in o (made_from (new_position s k) id 0 tx.outputs) → has_number held.contract begun ≡ true
        by_part (inl a) =
            let r = spent_holds 0 spent w.outputs o a in more held.contract (kept (r.0) (r.1) held (sym (r.2) ∙ e))
        by_part (inr a) =
            let r = made_holds (new_position s k) id 0 tx.outputs o a in new (r.0) held (sym (r.1) ∙ e)

    by_kind : (initial : Option ℕ) (first : Option ContractPosition)
        → ((held : ContractPosition) → first ≡ some_position held → has_number held.contract w.begun ≡ true)
        → AreBegun (spend_from 0 spent w.outputs ++ made_from (new_position s (kind_by s tx spent initial first)) id 0 tx.outputs)
        (begun_after (kind_by s tx spent initial first) w.begun)
    by_kind (Some k) first f =
        spent_or_made (kind_by s tx spent (Some k) first) (w.begun ++ k ∷ [])
        (λ n h. number-append n w.begun (k ∷ []) ∙ or_left _ _ h)
        (λ j p e.
        let z : record { contract = k; position = [] } ≡ p = cc in
        subst (λ (x : ContractPosition). has_number x.contract (w.begun ++ k ∷ []) ≡ true) z
        (number-append k w.begun (k ∷ []) ∙ or_right (has_number k w.begun) _ (or_left _ _ (eq-eqb k k refl))))
    by_kind None (Some held) f =
        spent_or_made (kind_by s tx spent None (Some held)) w.begun (λ n h. h)
        (λ j p e.
        subst (λ (c : ℕ). has_number c w.begun ≡ true) (sym (new_same held (first_number spent) (chosen_by (branch_count s held) (first_witness tx.inputs)) j p e)) (f held refl))
    by_kind None None f = spent_or_made Moves w.begun (λ n h. h) (λ j p e. cc)

  accepted_begun : (pairs : List Pair) (tx : Tx) (spent : List ℕ) → HasBegun (accepted s (with_pairs w pairs) tx spent).world
  unfolding HasBegun
  accepted_begun pairs tx spent =
      by_kind tx spent (txid s.hash tx) (initial_of s (with_pairs w pairs) tx) (first_position (with_pairs w pairs) spent)
      (λ held e. first_begun spent held (same_first spent ∙ e))
    where
      same_first : (ns : List ℕ) → first_position w ns ≡ first_position (with_pairs w pairs) ns
      same_first [] = refl
      same_first (n ∷ ns) = refl

  judged_begun : (pairs : List Pair) (tx : Tx) (v : Verdict) → HasBegun (judged s w (with_pairs w pairs) tx v).world
  unfolding HasBegun
  judged_begun pairs tx (verdicts.Refused r) = kept
  judged_begun pairs tx (verdicts.Accepted spent made) = accepted_begun pairs tx spent

  reaches_begun : (tx : Tx) → HasBegun (reaches s w w tx).world
  reaches_begun tx = by_verdict (verdict_in s w tx)
    where
      by_verdict : (v : Verdict) → HasBegun (judged s w w tx v).world
      by_verdict v = judged_begun [] tx v

  if_begun : (o : Option Tx) → HasBegun (reaches_if s w o).world
  if_begun None = kept
  if_begun (Some tx) = reaches_begun tx

  read_begun : (r : Result Tx ℕ) → HasBegun (append_read s w r).world
  read_begun (Ok tx) = reaches_begun tx
  read_begun (Err place) = kept

  event_begun : (e : Event) → HasBegun (pending s w e).world
  unfolding HasBegun
  event_begun (events.Advertise k bs) = unless_begun (first_reason (advertise_row s w k bs)) [] _ kept
  event_begun (events.Commit k a ds) =
      unless_begun (first_reason (commit_row s w k a ds)) [] _
      (unless_begun (first_reason (digest_row s w k a ds)) (committed_strings s k a) _ kept)
  event_begun (events.Endorse k a) = unless_begun (first_reason (endorse_row s w k a)) [] _ kept
  event_begun (events.Init k a) = unless_begun (first_reason (init_row s w k a)) [] _ kept
  event_begun (events.Authorise a n j) = unless_begun (first_reason (authorise_row s w a n j)) [] _ kept
  event_begun (events.Reveal k a name) = unless_begun (first_reason (reveal_row s w k a name)) [] _ kept
  event_begun (events.Post string) = kept
  event_begun (events.Sign a label digest) = unless_begun (first_reason (sign_row s a label)) [] _ kept
  event_begun (events.Give a inputs outputs) =
      let pairs = given_pairs s w a inputs outputs in
      unless_begun (first_reason (give_row s w a inputs outputs)) [] _
      (judged_begun pairs (gift s w a inputs outputs) (verdict_in s (with_pairs w pairs) (gift s w a inputs outputs)))
  event_begun (events.Append bytes) = read_begun (transaction_of bytes)
  event_begun (events.FireInit k) =
      unless_begun (first_reason (fire_init_row s w k)) [] _ (if_begun (initial_by s (compiled_instance s w k)))
  event_begun (events.Fire n j) =
      unless_begun (first_reason (fire_row s w n j)) [] _ (if_begun (taking_of_position s w (live_position_at w n) j))
  event_begun (events.Mine blocks) = unless_begun (first_reason (mine_row w blocks)) [] _ kept

-- ---- after a run

abbrev any_claim : Claim
any_claim before g w t = Unit {0}

opening_begun : (s : Setup) → HasBegun (opening_world s)
unfolding HasBegun
opening_begun s o i held e = let r = made_holds (λ k. None) _ 0 _ o i in let z : (let x : Option ContractPosition = None in x) ≡ Some held = sym (r.1) ∙ e in cc

keeps_begun : (s : Setup) (z : List (List ℕ)) → Keeps s any_claim (λ before g w. HasBegun w) z
unfolding HasBegun
keeps_begun s z = record { step = λ before g w e k is calm unguessed begins. (tt, event_begun s w k e) }

pub live_has_begun : (s : Setup) (es : List Event) → IsRun s es → (n : ℕ) (held : ContractPosition)
    → live_position_at (last_world s es) n ≡ Some held → has_number held.contract (last_world s es).begun ≡ true
unfolding HasBegun
live_has_begun s es run n held h =
    let kept = (kept_at_end s any_claim (λ before g w. HasBegun w) es (keeps_begun s (run_posts s es)) run.events (opening_begun s)).holds in
    live_begun s (last_world s es) kept (last_world s es).outputs n held kept h
