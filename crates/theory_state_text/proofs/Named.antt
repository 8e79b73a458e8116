-- What a chain shows of a deal has the names of its contract, and the strings that it shows are of bytes.
use Rattle.std.proofs.Common.{◌≡◌, ℕ, ◌+◌, List, [], ◌∷◌, ◌++◌, map, Bool, true, false, Option, Some, None, refl, sym, subst, inl, inr}
use Rattle.std.specs.Prelude.{◌⊎◌, not, is_some, filter, flat_map}
use Rattle.std.specs.List.{AllByRecursion}
use Rattle.std.proofs.lemmas.Bool.{and_parts}
use Rattle.spec_data.specs.Hashes.{IsBytes}
use Rattle.spec_data.specs.Lists.{is_among, look_up}
use Rattle.spec_terms.specs.Advert.{Advert}
use Rattle.spec_terms.specs.Core.{core, is_asked}
use Rattle.spec_terms.specs.Faults.{IsWellFormed}
use Rattle.spec_terms.specs.Paths.{at}
use Rattle.spec_terms.specs.Precondition.{Holding, deposits, persistent, secrets, names_of}
use Rattle.spec_terms.specs.Readable.{is_name, is_readable_branch}
use Rattle.spec_terms.specs.Term as term
use Rattle.spec_terms.specs.Term.{Parts, no_part, part, auth, after, put_reveal, withdraw, split}
use Rattle.spec_terms.specs.declared.path.PathStep.{PathStep}
use Rattle.spec_bitcoin.specs.declared.tx.OutPoint.{OutPoint}
use Rattle.spec_bitcoin.specs.declared.tx.Tx.{Tx}
use Rattle.spec_bitcoin.specs.declared.tx.TxIn.{TxIn}
use Rattle.spec_bitcoin.specs.declared.tx.TxOut.{TxOut}
use Rattle.spec_bitcoin.specs.Spelling.{IsString, IsInput, IsTransaction}
use Rattle.spec_calculus.specs.declared.step.Step.{Step}
use Rattle.spec_calculus.specs.declared.step.Step.TheVariants as steps
use Rattle.spec_compiler.specs.Keyed.Instance.{Instance, people}
use Rattle.spec_compiler.specs.Scripts.{digest_of}
use Rattle.spec_run.specs.Steps.{auth_inits, auth_branch, core_step}
use Rattle.spec_tool.specs.declared.which.Which.{Which}
use Rattle.spec_tool.specs.declared.which.Which.TheVariants as names
use Rattle.spec_deal.specs.declared.transaction.Transaction.{Transaction}
use Rattle.spec_deal.specs.Finished.{bytes_or_none}
use Rattle.spec_deal.specs.Needed.{deal_contract}
use Rattle.spec_chain.specs.declared.happened.Happened.{Happened}
use Rattle.spec_chain.specs.declared.output.Held.{Held}
use Rattle.spec_chain.specs.declared.output.Held.TheVariants.{Deposit, Position, Payout}
use Rattle.spec_chain.specs.declared.output.Output.{Output}
use Rattle.spec_chain.specs.declared.reading.Confirmed.{Confirmed}
use Rattle.spec_chain.specs.Chain.{Course, if_matters, gone_on}
use Rattle.spec_chain.specs.Following.{State, items_in, is_string_of, string_shown, is_newly_shown, newly_shown, strings_shown, outputs_of, outputs_named}
use Rattle.spec_chain.specs.Following.{outputs_made, places_spent, reveal_steps, branch_steps, first_spent, selected, which_steps, which_of}
use Rattle.spec_chain.specs.Following.{deposit_name, deposits_spent, gone_by, happened, matters}
use Rattle.spec_chain.specs.Outputs.{is_position, is_there, output_there, without_all, deposits_from, deposit_outputs, parts_held, core_held, branch_held}
use Rattle.spec_chain.specs.Outputs.{held_by, made_from, transaction_named}
use Rattle.theory_calculus.specs.Members.{Is_in}
use Rattle.theory_calculus.proofs.Members.{in_append, in_filter, all_in, found}
use Rattle.theory_calculus.proofs.Names.{in_named}
use Rattle.theory_world.proofs.Labels.{core_readable}
use Rattle.theory_play_text.specs.Printable.{IsNamed}
use Rattle.theory_play_text.proofs.LegalSteps.{all_by_in}
use Rattle.theory_play_text.proofs.Named.{IsHeld, IsOwned, deposits_named, persistent_named, secrets_named, has_names, branch_fine}
use Rattle.theory_chain.specs.Follows.{LeadsTo}
use Rattle.theory_chain.proofs.Deals.Whole.{from_map}
use Rattle.theory_chain.proofs.Runs.All.{AllSpelled}
use Rattle.theory_chain.proofs.Runs.Kept.{unspent}

-- ---- lists

-- each of these is so
abbrev pub Each : {X : Type 0} → (X → Type 0) → List X → Type 0
Each {X} P xs = (x : X) → Is_in x xs → P x

pub each_none : {X : Type 0} (P : X → Type 0) → Each P []
each_none P x i = absurd i

pub each_append : {X : Type 0} (P : X → Type 0) (xs ys : List X) → Each P xs → Each P ys → Each P (xs ++ ys)
each_append P xs ys h k x i = by_place (in_append x xs ys i)
  where
    by_place : Is_in x xs ⊎ Is_in x ys → P x
    by_place (inl j) = h x j
    by_place (inr j) = k x j

pub each_filter : {X : Type 0} (P : X → Type 0) (p : X → Bool) (xs : List X) → Each P xs → Each P (filter p xs)
each_filter P p xs h x i = h x (in_filter p xs x i).0

pub each_one : {X : Type 0} (P : X → Type 0) (x : X) → P x → Each P (x ∷ [])
each_one P x h y (inl e) = subst P (sym e) h
each_one P x h y (inr i) = absurd i

pub each_map : {X Y : Type 0} (P : Y → Type 0) (f : X → Y) (xs : List X) → Each (λ x. P (f x)) xs → Each P (map f xs)
each_map P f xs h y i =
    let r = from_map f xs y i in
    subst P (sym r.2) (h r.0 r.1)

pub each_flat : {X Y : Type 0} (P : Y → Type 0) (f : X → List Y) (xs : List X) → Each (λ x. Each P (f x)) xs → Each P (flat_map f xs)
each_flat P f [] h y i = absurd i
each_flat P f (x ∷ xs) h y i =
    each_append P (f x) (flat_map f xs) (h x (inl refl)) (each_flat P f xs (λ z j. h z (inr j))) y i

-- ---- what is named

abbrev pub HeldNamed : Held → Type 0
HeldNamed (Deposit name) = IsNamed name
HeldNamed (Position path) = Unit {0}
HeldNamed (Payout party) = IsNamed party

abbrev pub OutputNamed : Output → Type 0
OutputNamed o = HeldNamed o.held

-- the steps of a deal's transactions
abbrev pub StepNamed : Step → Type 0
StepNamed (steps.AuthInit k a x) = IsNamed a × IsNamed x
StepNamed (steps.Init k) = Unit {0}
StepNamed (steps.Reveal k a x) = IsNamed a × IsNamed x
StepNamed (steps.AuthBranch a n i) = IsNamed a
StepNamed (steps.PutReveal n i) = Unit {0}
StepNamed (steps.Withdraw n i) = Unit {0}
StepNamed (steps.Split n i) = Unit {0}
StepNamed step = ⊥

pub record HappenedNamed (h : Happened) : Type 0 where
  pub steps : Each StepNamed h.steps
  pub gone : Each IsNamed h.gone

-- a string that is shown is of bytes, and a secret's
pub record ShownFine (advert : Advert) (p : List ℕ × List ℕ) : Type 0 where
  pub bytes : IsBytes (p.1)
  pub secret : is_among (p.0) (names_of (secrets advert.pre)) ≡ true

pub record CourseNamed (advert : Advert) (course : Course) : Type 0 where
  pub live : Each OutputNamed course.state.live
  pub made : Each OutputNamed course.state.made
  pub history : Each HappenedNamed course.history
  pub shown : Each (ShownFine advert) course.state.shown

-- ---- outputs

deposits_from_named : (s : Instance) (n : ℕ) (ds : List (List ℕ × Holding)) → AllByRecursion IsHeld ds → Each OutputNamed (deposits_from s n ds)
deposits_from_named s n [] h o i = absurd i
deposits_from_named s n (d ∷ ds) h o (inl e) = subst OutputNamed (sym e) (h.0).0
deposits_from_named s n (d ∷ ds) h o (inr i) = deposits_from_named s (n + 1) ds h.1 o i

made_from_named : (txid : List ℕ) (k n : ℕ) (hs : List Held) (os : List TxOut) → Each HeldNamed hs → Each OutputNamed (made_from txid k n hs os)
made_from_named txid k n [] os f o i = absurd i
made_from_named txid k n (h ∷ hs) [] f o i = absurd i
made_from_named txid k n (h ∷ hs) (x ∷ os) f o (inl e) = subst OutputNamed (sym e) (f h (inl refl))
made_from_named txid k n (h ∷ hs) (x ∷ os) f o (inr i) = made_from_named txid (k + 1) (n + 1) hs os (λ y j. f y (inr j)) o i

parts_named : (path : List PathStep) (k : ℕ) (ps : Parts) → Each HeldNamed (parts_held path k ps)
parts_named path k no_part h i = absurd i
parts_named path k (part v c ps) h (inl e) = subst HeldNamed (sym e) tt
parts_named path k (part v c ps) h (inr i) = parts_named path (k + 1) ps h i

core_held_named : (path : List PathStep) (c : term.Guarded) → is_readable_branch c ≡ true → Each HeldNamed (core_held path c)
core_held_named path (put_reveal puts reveals test next) r = each_one HeldNamed (Position path) tt
core_held_named path (withdraw party) r = each_one HeldNamed (Payout party) r
core_held_named path (split parts) r = parts_named path 0 parts
core_held_named path (auth party body) r = each_none HeldNamed
core_held_named path (after height body) r = each_none HeldNamed

core_steps_named : (n i : ℕ) (c : term.Guarded) → Each StepNamed (core_step n i c)
core_steps_named n i (put_reveal puts reveals test next) = each_one StepNamed (steps.PutReveal n i) tt
core_steps_named n i (withdraw party) = each_one StepNamed (steps.Withdraw n i) tt
core_steps_named n i (split parts) = each_one StepNamed (steps.Split n i) tt
core_steps_named n i (auth party body) = each_none StepNamed
core_steps_named n i (after height body) = each_none StepNamed

auth_inits_named : (k : ℕ) (ds : List (List ℕ × Holding)) → AllByRecursion IsHeld ds → Each StepNamed (auth_inits k ds)
auth_inits_named k [] h x i = absurd i
auth_inits_named k (d ∷ ds) h x (inl e) = subst StepNamed (sym e) ((h.0).1, (h.0).0)
auth_inits_named k (d ∷ ds) h x (inr i) = auth_inits_named k ds h.1 x i

deposit_named : (o : Output) → OutputNamed o → Each IsNamed (deposit_name (Some o))
deposit_named o = by_held o.held
  where
    by_held : (h : Held) → HeldNamed h → Each IsNamed (elim h [ Deposit name ↦ name ∷ [] | Position path ↦ [] | Payout party ↦ [] ])
    by_held (Deposit name) f = each_one IsNamed name f
    by_held (Position path) f = each_none IsNamed
    by_held (Payout party) f = each_none IsNamed

-- ---- the contract

module _ (hash : List ℕ → List ℕ) (s : Instance) (well : IsWellFormed s.advert) where
  pub owned : Each IsOwned (secrets s.advert.pre)
  owned = all_by_in IsOwned (secrets s.advert.pre) (secrets_named s.advert.pre (has_names s.advert well).pre)

  pub people_named : Each IsNamed (people s)
  people_named x i = all_in is_name (people s) x (has_names s.advert well).people i

  held_named : (which : Which) → Each HeldNamed (held_by s.advert which)
  held_named names.Init = each_one HeldNamed (Position []) tt
  held_named (names.At path) = by_branch (at s.advert.root path) refl
    where
      by_branch : (o : Option term.Guarded) → at s.advert.root path ≡ o → Each HeldNamed (branch_held path o)
      by_branch None e = each_none HeldNamed
      by_branch (Some b) e = core_held_named path (core b) (core_readable b (branch_fine s.advert well path b e).readable)

  module _ (ts : List Transaction) where
    outputs_of_named : (n : ℕ) (o : Option Transaction) → Each OutputNamed (outputs_of s n o)
    outputs_of_named n None = each_none OutputNamed
    outputs_of_named n (Some t) = made_from_named t.txid 0 n (held_by s.advert t.which) t.tx.outputs (held_named t.which)

    outputs_made_named : (n : ℕ) (o : Option Which) → Each OutputNamed (outputs_named s ts n o)
    outputs_made_named n None = each_none OutputNamed
    outputs_made_named n (Some which) = outputs_of_named n (transaction_named ts which)

    which_steps_named : (state : State) (tx : Tx) (o : Option Which) → Each StepNamed (which_steps s state tx o)
    which_steps_named state tx None = each_none StepNamed
    which_steps_named state tx (Some names.Init) =
        each_append StepNamed (auth_inits deal_contract (persistent s.advert.pre)) (steps.Init deal_contract ∷ [])
        (auth_inits_named deal_contract (persistent s.advert.pre) (persistent_named s.advert.pre (has_names s.advert well).pre))
        (each_one StepNamed (steps.Init deal_contract) tt)
    which_steps_named state tx (Some (names.At path)) =
        by_branch (first_spent state tx.inputs) (selected s tx path) (at s.advert.root path)
      where
        by_branch : (n i : ℕ) (o : Option term.Guarded) → Each StepNamed (branch_steps s n i o)
        by_branch n i None = each_none StepNamed
        by_branch n i (Some b) =
            each_append StepNamed (map (auth_branch n i) (filter (is_asked b) (people s))) (core_step n i (core b))
            (each_map StepNamed (auth_branch n i) (filter (is_asked b) (people s)) (each_filter IsNamed (is_asked b) (people s) people_named))
            (core_steps_named n i (core b))

    reveals_named : (state : State) (tx : Tx) → Each StepNamed (reveal_steps (newly_shown hash s state tx))
    reveals_named state tx =
        each_map StepNamed (λ p. steps.Reveal deal_contract (p.1) (p.0)) (newly_shown hash s state tx)
        (λ p i.
        let o = owned p (in_filter (λ (q : List ℕ × List ℕ). is_newly_shown hash s state tx (q.0)) (secrets s.advert.pre) p i).0 in
        (o.1, o.0))

    spent_named : (state : State) (tx : Tx) → Each OutputNamed state.live → Each IsNamed (deposits_spent state tx)
    spent_named state tx live =
        each_flat IsNamed (λ place. deposit_name (output_there state.live place)) (places_spent tx)
        (λ place i. by_output place (output_there state.live place) refl)
      where
        by_output : (place : OutPoint) (o : Option Output) → output_there state.live place ≡ o → Each IsNamed (deposit_name o)
        by_output place None e = each_none IsNamed
        by_output place (Some o) e = deposit_named o (live o (found (is_there place) state.live o e).0)

    gone_named : (state : State) (tx : Tx) → Each OutputNamed state.live → (o : Option Which) → Each IsNamed (gone_by state tx o)
    gone_named state tx live None = spent_named state tx live
    gone_named state tx live (Some which) = each_none IsNamed

    happened_named : (state : State) (height : ℕ) (tx : Tx) → Each OutputNamed state.live → HappenedNamed (happened hash s ts state height tx)
    happened_named state height tx live = record {
      steps = each_append StepNamed (reveal_steps (newly_shown hash s state tx)) (which_steps s state tx (which_of s ts tx))
          (reveals_named state tx) (which_steps_named state tx (which_of s ts tx));
      gone = gone_named state tx live (which_of s ts tx);
    }

    -- ---- strings

    item_bytes : (tx : Tx) → IsTransaction tx → Each IsBytes (items_in tx)
    item_bytes tx fits =
        each_flat IsBytes (λ (i : TxIn). i.witness) tx.inputs
        (λ input j item k.
        (all_by_in IsString input.witness (all_by_in IsInput tx.inputs fits.inputs input j).witness item k).bytes)

    strings_fine : (state : State) (tx : Tx) → IsTransaction tx → Each (ShownFine s.advert) (strings_shown hash s state tx)
    strings_fine state tx fits =
        each_map (ShownFine s.advert) (λ p. (p.0, bytes_or_none (string_shown hash s tx (p.0)))) (newly_shown hash s state tx)
        (λ p i. of_new p (in_filter (λ (q : List ℕ × List ℕ). is_newly_shown hash s state tx (q.0)) (secrets s.advert.pre) p i))
      where
        by_string : (name : List ℕ) (o : Option (List ℕ)) → string_shown hash s tx name ≡ o → is_some o ≡ true → IsBytes (bytes_or_none o)
        by_string name None e h = cc
        by_string name (Some bytes) e h =
            item_bytes tx fits bytes (found (is_string_of hash (digest_of s.hashes name)) (items_in tx) bytes e).0

        of_new : (p : List ℕ × List ℕ) → Is_in p (secrets s.advert.pre) × (is_newly_shown hash s state tx (p.0) ≡ true)
            → ShownFine s.advert (p.0, bytes_or_none (string_shown hash s tx (p.0)))
        of_new p h =
            let new = (and_parts (not (is_some (look_up (p.0) state.shown))) (is_some (string_shown hash s tx (p.0))) h.1).1 in
            record {
              bytes = by_string (p.0) (string_shown hash s tx (p.0)) refl new;
              secret = in_named (secrets s.advert.pre) p h.0;
            }

    -- ---- along a chain

    one_more : (course : Course) (c : Confirmed) → IsTransaction c.tx → CourseNamed s.advert course → CourseNamed s.advert (gone_on hash s ts course c)
    one_more course c fits k =
        let made = outputs_made_named course.state.next (which_of s ts c.tx) in
        record {
          live = each_append OutputNamed (without_all course.state.live (places_spent c.tx)) (filter is_position (outputs_made s ts course.state c.tx))
              (λ o i. k.live o (unspent course.state.live (places_spent c.tx) o i).0)
              (each_filter OutputNamed is_position (outputs_made s ts course.state c.tx) made);
          made = each_append OutputNamed course.state.made (outputs_made s ts course.state c.tx) k.made made;
          history = by_matters (matters (happened hash s ts course.state c.height c.tx));
          shown = each_append (ShownFine s.advert) course.state.shown (strings_shown hash s course.state c.tx) k.shown
              (strings_fine course.state c.tx fits);
        }
      where
        by_matters : (b : Bool) → Each HappenedNamed (if_matters b course.history (happened hash s ts course.state c.height c.tx))
        by_matters true =
            each_append HappenedNamed course.history (happened hash s ts course.state c.height c.tx ∷ []) k.history
            (each_one HappenedNamed (happened hash s ts course.state c.height c.tx) (happened_named course.state c.height c.tx k.live))
        by_matters false = k.history

    pub along : (cs : List Confirmed) (course last : Course) → LeadsTo hash s ts course cs last → AllSpelled cs → CourseNamed s.advert course
        → CourseNamed s.advert last
    along [] course last h f k = subst (CourseNamed s.advert) (sym h) k
    along (c ∷ cs) course last h f k = along cs (gone_on hash s ts course c) last h.2 f.1 (one_more course c f.0 k)

  pub deposits_are_named : Each OutputNamed (deposit_outputs s)
  deposits_are_named = deposits_from_named s 0 (deposits s.advert.pre) (deposits_named s.advert.pre (has_names s.advert well).pre)
