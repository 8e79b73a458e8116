-- What the offers rest on stays over the steps of an accepted transaction.
use Rattle.std.proofs.Common.{◌≡◌, ℕ, List, [], ◌∷◌, ◌++◌, map, true, Option, Some, None, refl, ap, subst, inl, inr}
use Rattle.std.specs.Prelude.{filter}
use Rattle.std.proofs.lemmas.Bool.{or_left, eq-eqb}
use Rattle.spec_data.specs.Lists.{has_number}
use Rattle.spec_terms.specs.Term as term
use Rattle.spec_terms.specs.Term.{auth, after, put_reveal, withdraw, split}
use Rattle.spec_terms.specs.Core.{core}
use Rattle.spec_terms.specs.Precondition.{Holding, persistent}
use Rattle.spec_bitcoin.specs.declared.tx.Tx.{Tx}
use Rattle.spec_calculus.specs.declared.parts.Revealed.{Revealed}
use Rattle.spec_calculus.specs.declared.step.Step.TheVariants as steps
use Rattle.spec_calculus.specs.declared.step.Move.{Move}
use Rattle.spec_calculus.specs.Configuration.{Configuration}
use Rattle.spec_calculus.specs.Steps as calculus
use Rattle.spec_compiler.specs.Instance.{Instance}
use Rattle.spec_compiler.specs.Endorsements.{is_endorsed}
use Rattle.spec_run.specs.Setup.{Setup, people_at, pre_at}
use Rattle.spec_run.specs.World.{ContractPosition, World}
use Rattle.spec_run.specs.Compiled.{compiled_instance}
use Rattle.spec_run.specs.Ledger.{initial_of, first_position, Kind, Begins, Takes, Moves, kind_by, kind_of, position_branch}
use Rattle.spec_run.specs.Steps.{reveals, reveal_step, auth_inits, auth_move, auth_branch, core_step, branch_steps, kind_steps, unauthorised, parties_once, owners_of, move_of, is_awaited}
use Rattle.spec_run.specs.Secrets.{newly_shown}
use Rattle.theory_calculus.specs.Members.{Is_in}
use Rattle.theory_world.proofs.Ledger.Worth.{IsAccepted}
use Rattle.theory_run.specs.KeptBook.{KeptBook}
use Rattle.theory_run.proofs.Accepted.WhatItIs.{initial_is}
use Rattle.theory_offers.proofs.Basis.Offered.{KeptOffers}
use Rattle.theory_offers.proofs.Basis.Accepted.{next, accepted_offers}
use Rattle.theory_offers.proofs.Basis.Stepped.{inits_after, asked_after, constant_after, was_live, is_gone}
use Rattle.theory_world.proofs.Contracts.Endorsed.{in_joined}

-- ---- who lets a contract take a deposit

no_reveal : (k : ℕ) (p x : List ℕ) (rs : List Revealed) → Is_in (steps.AuthInit k p x) (map reveal_step rs) → ⊥
no_reveal k p x [] h = h
no_reveal k p x (r ∷ rs) (inl e) = cc
no_reveal k p x (r ∷ rs) (inr i) = no_reveal k p x rs i

no_move : (k : ℕ) (p x : List ℕ) (m : Move) (ps : List (List ℕ)) → Is_in (steps.AuthInit k p x) (map (auth_move m) ps) → ⊥
no_move k p x m [] h = h
no_move k p x m (q ∷ ps) (inl e) = cc
no_move k p x m (q ∷ ps) (inr i) = no_move k p x m ps i

no_branch : (k : ℕ) (p x : List ℕ) (n i : ℕ) (ps : List (List ℕ)) → Is_in (steps.AuthInit k p x) (map (auth_branch n i) ps) → ⊥
no_branch k p x n i [] h = h
no_branch k p x n i (q ∷ ps) (inl e) = cc
no_branch k p x n i (q ∷ ps) (inr j) = no_branch k p x n i ps j

no_core : (k : ℕ) (p x : List ℕ) (n i : ℕ) (c : term.Guarded) → Is_in (steps.AuthInit k p x) (core_step n i c) → ⊥
no_core k p x n i (put_reveal puts reveals test next) (inl e) = cc
no_core k p x n i (put_reveal puts reveals test next) (inr j) = j
no_core k p x n i (withdraw party) (inl e) = cc
no_core k p x n i (withdraw party) (inr j) = j
no_core k p x n i (split parts) (inl e) = cc
no_core k p x n i (split parts) (inr j) = j
no_core k p x n i (auth party body) h = h
no_core k p x n i (after height body) h = h

one_begins : (k c : ℕ) (p x : List ℕ) (ds : List (List ℕ × Holding)) → Is_in (steps.AuthInit k p x) (auth_inits c ds) → c ≡ k
one_begins k c p x [] h = absurd h
one_begins k c p x (d ∷ ds) (inl e) = cc
one_begins k c p x (d ∷ ds) (inr i) = one_begins k c p x ds i

init_kind : (s : Setup) (g : Configuration) (w : World) (tx : Tx) (spent : List ℕ) (kd : Kind) (k : ℕ) (p x : List ℕ)
    → Is_in (steps.AuthInit k p x) (kind_steps s g w tx spent kd) → kd ≡ Begins k
init_kind s g w tx spent (Begins c) k p x h = elim (in_joined (auth_inits c (unauthorised g c (persistent (pre_at s c)))) (steps.Init c ∷ []) _ h) [
  | inl a ↦ ap Begins (one_begins k c p x (unauthorised g c (persistent (pre_at s c))) a)
  | inr b ↦ elim b [ inl e ↦ cc | inr e ↦ absurd e ]
]
init_kind s g w tx spent (Takes held n i) k p x h = absurd (by_branch (position_branch s held i) h)
  where
    by_branch : (o : Option term.Guarded) → Is_in (steps.AuthInit k p x) (branch_steps g (people_at s held.contract) n i o) → ⊥
    by_branch None q = q
    by_branch (Some b) q = elim (in_joined (map (auth_branch n i) (filter (is_awaited g n i b) (people_at s held.contract))) (core_step n i (core b)) _ q) [
      | inl a ↦ no_branch k p x n i (filter (is_awaited g n i b) (people_at s held.contract)) a
      | inr a ↦ no_core k p x n i (core b) a
    ]
init_kind s g w tx spent Moves k p x h =
    elim (in_joined (map (auth_move (move_of s tx spent)) (parties_once (owners_of s w spent))) (steps.Move (move_of s tx spent) ∷ []) _ h) [
      | inl a ↦ absurd (no_move k p x (move_of s tx spent) (parties_once (owners_of s w spent)) a)
      | inr b ↦ elim b [ inl e ↦ cc | inr e ↦ absurd e ]
    ]

begins_by : (s : Setup) (tx : Tx) (spent : List ℕ) (k : ℕ) (o : Option ℕ) (f : Option ContractPosition) → kind_by s tx spent o f ≡ Begins k → o ≡ Some k
begins_by s tx spent k (Some c) f h = let e : c ≡ k = cc in ap Some e
begins_by s tx spent k None (Some held) h = cc
begins_by s tx spent k None None h = cc

-- ---- who authorises a branch

no_reveal_branch : (n i : ℕ) (a : List ℕ) (rs : List Revealed) → Is_in (steps.AuthBranch a n i) (map reveal_step rs) → ⊥
no_reveal_branch n i a [] h = h
no_reveal_branch n i a (r ∷ rs) (inl e) = cc
no_reveal_branch n i a (r ∷ rs) (inr j) = no_reveal_branch n i a rs j

no_move_branch : (n i : ℕ) (a : List ℕ) (m : Move) (ps : List (List ℕ)) → Is_in (steps.AuthBranch a n i) (map (auth_move m) ps) → ⊥
no_move_branch n i a m [] h = h
no_move_branch n i a m (q ∷ ps) (inl e) = cc
no_move_branch n i a m (q ∷ ps) (inr j) = no_move_branch n i a m ps j

no_init_branch : (n i : ℕ) (a : List ℕ) (c : ℕ) (ds : List (List ℕ × Holding)) → Is_in (steps.AuthBranch a n i) (auth_inits c ds) → ⊥
no_init_branch n i a c [] h = h
no_init_branch n i a c (d ∷ ds) (inl e) = cc
no_init_branch n i a c (d ∷ ds) (inr j) = no_init_branch n i a c ds j

no_core_branch : (n i m j : ℕ) (a : List ℕ) (c : term.Guarded) → Is_in (steps.AuthBranch a n i) (core_step m j c) → ⊥
no_core_branch n i m j a (put_reveal puts reveals test next) (inl e) = cc
no_core_branch n i m j a (put_reveal puts reveals test next) (inr k) = k
no_core_branch n i m j a (withdraw party) (inl e) = cc
no_core_branch n i m j a (withdraw party) (inr k) = k
no_core_branch n i m j a (split parts) (inl e) = cc
no_core_branch n i m j a (split parts) (inr k) = k
no_core_branch n i m j a (auth party body) h = h
no_core_branch n i m j a (after height body) h = h

one_branch : (n i m j : ℕ) (a : List ℕ) (ps : List (List ℕ)) → Is_in (steps.AuthBranch a n i) (map (auth_branch m j) ps) → m ≡ n
one_branch n i m j a [] h = absurd h
one_branch n i m j a (q ∷ ps) (inl e) = cc
one_branch n i m j a (q ∷ ps) (inr k) = one_branch n i m j a ps k

-- the output of the branch that a transaction takes
abbrev taken_output : Kind → Option ℕ
taken_output (Takes held n i) = Some n
taken_output (Begins k) = None
taken_output Moves = None

asked_kind : (s : Setup) (g : Configuration) (w : World) (tx : Tx) (spent : List ℕ) (kd : Kind) (n i : ℕ) (a : List ℕ)
    → Is_in (steps.AuthBranch a n i) (kind_steps s g w tx spent kd) → taken_output kd ≡ Some n
asked_kind s g w tx spent (Begins c) n i a h = elim (in_joined (auth_inits c (unauthorised g c (persistent (pre_at s c)))) (steps.Init c ∷ []) _ h) [
  | inl x ↦ absurd (no_init_branch n i a c (unauthorised g c (persistent (pre_at s c))) x)
  | inr x ↦ elim x [ inl e ↦ cc | inr e ↦ absurd e ]
]
asked_kind s g w tx spent (Takes held m j) n i a h = by_branch (position_branch s held j) h
  where
    by_branch : (o : Option term.Guarded) → Is_in (steps.AuthBranch a n i) (branch_steps g (people_at s held.contract) m j o) → Some m ≡ Some n
    by_branch None q = absurd q
    by_branch (Some b) q = elim (in_joined (map (auth_branch m j) (filter (is_awaited g m j b) (people_at s held.contract))) (core_step m j (core b)) _ q) [
      | inl x ↦ ap Some (one_branch n i m j a (filter (is_awaited g m j b) (people_at s held.contract)) x)
      | inr x ↦ absurd (no_core_branch n i m j a (core b) x)
    ]
asked_kind s g w tx spent Moves n i a h =
    elim (in_joined (map (auth_move (move_of s tx spent)) (parties_once (owners_of s w spent))) (steps.Move (move_of s tx spent) ∷ []) _ h) [
      | inl x ↦ absurd (no_move_branch n i a (move_of s tx spent) (parties_once (owners_of s w spent)) x)
      | inr x ↦ elim x [ inl e ↦ cc | inr e ↦ absurd e ]
    ]

taken_first : (s : Setup) (w : World) (tx : Tx) (spent : List ℕ) (n : ℕ) (o : Option ℕ) (f : Option ContractPosition)
    → first_position w spent ≡ f → taken_output (kind_by s tx spent o f) ≡ Some n → has_number n spent ≡ true
taken_first s w tx spent n (Some c) f e h = cc
taken_first s w tx [] n None (Some held) e h = cc
taken_first s w tx (m ∷ ms) n None (Some held) e h = let q : m ≡ n = cc in or_left _ _ (eq-eqb m n q)
taken_first s w tx spent n None None e h = cc

-- ---- all of it

-- the contract that begins must be endorsed
pub entered_offers : (s : Setup) (g : Configuration) (w : World) (kept : KeptBook s g w) (more : KeptOffers s g w) (tx : Tx)
    (spent : List ℕ) (is : IsAccepted s w tx spent)
    → (let g' = calculus.after_steps g (reveals s w (next s g g w kept more more.constant tx spent is) ++ kind_steps s g w tx spent (kind_of s w tx spent)) in
    let later = next s g g w kept more more.constant tx spent is in
    ((k : ℕ) (st : Instance) → compiled_instance s w k ≡ Some st → compiled_instance s later k ≡ Some st)
    → ((k : ℕ) (st : Instance) → compiled_instance s later k ≡ Some st → compiled_instance s w k ≡ Some st)
    → ((k : ℕ) (st : Instance) → initial_of s w tx ≡ Some k → compiled_instance s w k ≡ Some st → is_endorsed s.hash st w.book ≡ true)
    → KeptOffers s g' later)
entered_offers s g w kept more tx spent is stays back endorsed =
    let later = next s g g w kept more more.constant tx spent is in
    let shown = newly_shown s w later in
    let all = reveals s w later ++ kind_steps s g w tx spent (kind_of s w tx spent) in
    accepted_offers s g (calculus.after_steps g all) w kept more (constant_after s all g more.constant) tx spent is stays back
    (λ k x h. elim (inits_after all g k x h) [
      | inl a ↦ inl a
      | inr b ↦ inr (
          let q : Is_in (steps.AuthInit k b.2.0 x) all = subst (λ y. Is_in y all) b.2.1 b.1 in
          elim (in_joined (reveals s w later) (kind_steps s g w tx spent (kind_of s w tx spent)) _ q) [
            | inl r ↦ absurd (no_reveal k b.2.0 x shown r)
            | inr r ↦ begins_by s tx spent k (initial_of s w tx) (first_position w spent) (init_kind s g w tx spent (kind_of s w tx spent) k b.2.0 x r)
          ]
          )
    ])
    (λ n i a h. elim (asked_after all g n i a h) [
      | inl x ↦ inl x
      | inr q ↦ elim (in_joined (reveals s w later) (kind_steps s g w tx spent (kind_of s w tx spent)) _ q) [
        | inl r ↦ absurd (no_reveal_branch n i a shown r)
        | inr r ↦ inr (taken_first s w tx spent n (initial_of s w tx) (first_position w spent) refl (asked_kind s g w tx spent (kind_of s w tx spent) n i a r))
      ]
    ])
    (λ k e. let r = initial_is s w tx k e in
    (r.instance, r.compiled, endorsed k r.instance e r.compiled, λ d i. is_gone s g w kept tx spent is k r.instance r.compiled d i r.is))
    (λ k st d c i l. was_live s g w kept tx spent is k st c d i l)
