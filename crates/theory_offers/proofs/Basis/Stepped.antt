-- What the steps of an accepted transaction authorise, and what becomes of bound deposits.
use Rattle.std.proofs.Common.{◌≡◌, ℕ, ◌+◌, List, [], ◌∷◌, map, true, false, Some, refl, sym, ap, ◌∙◌, subst, arith, inl, inr}
use Rattle.std.specs.Prelude.{◌&&◌, ◌⊎◌, slice_get, option_map}
use Rattle.std.specs.Option.{is_none}
use Rattle.std.proofs.lemmas.Bool.{and_parts, and_from, both_ways, true_from_ne_false}
use Rattle.spec_data.specs.Lists.{has_number, look_up}
use Rattle.spec_terms.specs.Precondition.{Holding, persistent}
use Rattle.spec_bitcoin.specs.declared.tx.Tx.{Tx}
use Rattle.spec_bitcoin.specs.Digests.{txid}
use Rattle.spec_calculus.specs.declared.step.Step.{Step}
use Rattle.spec_calculus.specs.declared.step.Step.TheVariants as steps
use Rattle.spec_calculus.specs.Configuration.{Configuration}
use Rattle.spec_calculus.specs.Beginning.{is_init_authorised}
use Rattle.spec_calculus.specs.Branches.{has_branch_authorised}
use Rattle.spec_calculus.specs.Steps as calculus
use Rattle.spec_compiler.specs.Instance.{Instance}
use Rattle.spec_compiler.specs.Transactions.{input_of, tx_of, deposit, persistent_deposits, initial_unsigned}
use Rattle.spec_run.specs.Setup.{Setup}
use Rattle.spec_run.specs.World.{Output, World, is_deposit, bindings_at}
use Rattle.spec_run.specs.Compiled.{compiled_instance}
use Rattle.spec_run.specs.Pending.{applied}
use Rattle.spec_run.specs.Ledger.{spend_from, made_from, kind_of, new_position, accepted}
use Rattle.spec_run.specs.Steps.{names_deposit, is_bound_live}
use Rattle.theory_bitcoin.specs.Apart.{bare}
use Rattle.theory_calculus.specs.Members.{Is_in}
use Rattle.theory_calculus.proofs.Names.{persistent_deposit}
use Rattle.theory_world.proofs.Ledger.Accepting.{accepting}
use Rattle.theory_run.proofs.Accepted.Accept.{bare_in, spent_at}
use Rattle.theory_world.proofs.Ledger.Worth.{IsAccepted}
use Rattle.theory_world.proofs.Later.{get-spent, get-prefix, lasts_spent, compiled_is}
use Rattle.theory_run.specs.Tracks.{Constant}
use Rattle.theory_run.specs.KeptBook.{KeptBook}
use Rattle.theory_run.proofs.Accepted.WhatItIs.{AtBound, at_bound}
use Rattle.theory_offers.proofs.Basis.Signed.{with_init-split, with_branch-split}

-- ---- what steps authorise

-- a step that lets the contract take the deposit
abbrev IsAuthInit : ℕ → List ℕ → Step → Type 0
IsAuthInit k x step = (party : List ℕ) × (step ≡ steps.AuthInit k party x)

one_init : (g : Configuration) (step : Step) (k : ℕ) (x : List ℕ) → is_init_authorised (calculus.effect g step).init_authorised k x ≡ true
    → (is_init_authorised g.init_authorised k x ≡ true) ⊎ IsAuthInit k x step
one_init g (steps.AuthInit contract party deposit) k x h = elim (with_init-split g.init_authorised contract deposit k x h) [
  | inl a ↦ inl a
  | inr b ↦ inr (party, λ j. steps.AuthInit (b.0 j) party (b.1 j))
]
one_init g (steps.Delay blocks) k x h = inl h
one_init g (steps.AuthMove party action) k x h = inl h
one_init g (steps.Move action) k x h = inl h
one_init g (steps.Advertise contract bindings) k x h = inl h
one_init g (steps.Commit contract party lengths) k x h = inl h
one_init g (steps.Init contract) k x h = inl h
one_init g (steps.Reveal contract party secret) k x h = inl h
one_init g (steps.AuthBranch party output branch) k x h = inl h
one_init g (steps.PutReveal output branch) k x h = inl h
one_init g (steps.Withdraw output branch) k x h = inl h
one_init g (steps.Split output branch) k x h = inl h

pub inits_after : (xs : List Step) (g : Configuration) (k : ℕ) (x : List ℕ)
    → is_init_authorised (calculus.after_steps g xs).init_authorised k x ≡ true
    → (is_init_authorised g.init_authorised k x ≡ true) ⊎ ((step : Step) × Is_in step xs × IsAuthInit k x step)
inits_after [] g k x h = inl h
inits_after (step ∷ xs) g k x h = elim (inits_after xs (calculus.effect g step) k x h) [
  | inl a ↦ elim (one_init g step k x a) [ inl y ↦ inl y | inr y ↦ inr (step, inl refl, y) ]
  | inr b ↦ inr (b.0, inr b.1, b.2)
]

one_asked : (g : Configuration) (step : Step) (n i : ℕ) (a : List ℕ)
    → has_branch_authorised (calculus.effect g step).branch_authorised n i a ≡ true
    → (has_branch_authorised g.branch_authorised n i a ≡ true) ⊎ (step ≡ steps.AuthBranch a n i)
one_asked g (steps.AuthBranch party output branch) n i a h = elim (with_branch-split g.branch_authorised party output branch n i a h) [
  | inl x ↦ inl x
  | inr x ↦ inr (λ j. steps.AuthBranch (x.0 j) (x.1 j) (x.2 j))
]
one_asked g (steps.AuthInit contract party deposit) n i a h = inl h
one_asked g (steps.Delay blocks) n i a h = inl h
one_asked g (steps.AuthMove party action) n i a h = inl h
one_asked g (steps.Move action) n i a h = inl h
one_asked g (steps.Advertise contract bindings) n i a h = inl h
one_asked g (steps.Commit contract party lengths) n i a h = inl h
one_asked g (steps.Init contract) n i a h = inl h
one_asked g (steps.Reveal contract party secret) n i a h = inl h
one_asked g (steps.PutReveal output branch) n i a h = inl h
one_asked g (steps.Withdraw output branch) n i a h = inl h
one_asked g (steps.Split output branch) n i a h = inl h

pub asked_after : (xs : List Step) (g : Configuration) (n i : ℕ) (a : List ℕ)
    → has_branch_authorised (calculus.after_steps g xs).branch_authorised n i a ≡ true
    → (has_branch_authorised g.branch_authorised n i a ≡ true) ⊎ Is_in (steps.AuthBranch a n i) xs
asked_after [] g n i a h = inl h
asked_after (step ∷ xs) g n i a h = elim (asked_after xs (calculus.effect g step) n i a h) [
  | inl x ↦ elim (one_asked g step n i a x) [ inl y ↦ inl y | inr y ↦ inr (inl (sym y)) ]
  | inr b ↦ inr (inr b)
]

-- ---- what never changes

one_constant : (s : Setup) (g : Configuration) (step : Step) → Constant s g → Constant s (calculus.effect g step)
one_constant s g (steps.AuthInit contract party deposit) c = record { parties = c.parties; honest = c.honest; contracts = c.contracts }
one_constant s g (steps.Delay blocks) c = record { parties = c.parties; honest = c.honest; contracts = c.contracts }
one_constant s g (steps.AuthMove party action) c = record { parties = c.parties; honest = c.honest; contracts = c.contracts }
one_constant s g (steps.Move action) c = record { parties = c.parties; honest = c.honest; contracts = c.contracts }
one_constant s g (steps.Advertise contract bindings) c = record { parties = c.parties; honest = c.honest; contracts = c.contracts }
one_constant s g (steps.Commit contract party lengths) c = record { parties = c.parties; honest = c.honest; contracts = c.contracts }
one_constant s g (steps.Init contract) c = record { parties = c.parties; honest = c.honest; contracts = c.contracts }
one_constant s g (steps.Reveal contract party secret) c = record { parties = c.parties; honest = c.honest; contracts = c.contracts }
one_constant s g (steps.AuthBranch party output branch) c = record { parties = c.parties; honest = c.honest; contracts = c.contracts }
one_constant s g (steps.PutReveal output branch) c = record { parties = c.parties; honest = c.honest; contracts = c.contracts }
one_constant s g (steps.Withdraw output branch) c = record { parties = c.parties; honest = c.honest; contracts = c.contracts }
one_constant s g (steps.Split output branch) c = record { parties = c.parties; honest = c.honest; contracts = c.contracts }

pub constant_after : (s : Setup) (xs : List Step) (g : Configuration) → Constant s g → Constant s (calculus.after_steps g xs)
constant_after s [] g c = c
constant_after s (step ∷ xs) g c = constant_after s xs (calculus.effect g step) (one_constant s g step c)

-- ---- bound deposits

pub spends_in : (hash : List ℕ → List ℕ) (st : Instance) (ds : List (List ℕ × Holding)) (d : List ℕ × Holding) → Is_in d ds
    → Is_in (input_of (deposit hash st (d.0) (d.1))) (map input_of (map (λ (x : List ℕ × Holding). deposit hash st x.0 x.1) ds))
spends_in hash st [] d h = absurd h
spends_in hash st (x ∷ ds) d (inl e) = inl (ap (λ (y : List ℕ × Holding). input_of (deposit hash st (y.0) (y.1))) e)
spends_in hash st (x ∷ ds) d (inr i) = inr (spends_in hash st ds d i)

module _ (s : Setup) (g : Configuration) (w : World) (kept : KeptBook s g w) (tx : Tx) (spent : List ℕ) (is : IsAccepted s w tx spent) where
  abbrev next : World
  next = applied w (accepted s w tx spent)

  abbrev news : List Output
  news = made_from (new_position s (kind_of s w tx spent)) (txid s.hash tx) 0 tx.outputs

  module _ (k : ℕ) (st : Instance) (c : compiled_instance s w k ≡ Some st) (d : List ℕ × Holding) (i : Is_in d (persistent st.advert.pre)) where
    at : AtBound s w st (d.0) (d.1)
    at = at_bound s g w kept k st c (d.0) (d.1) (persistent_deposit st.advert.pre d i)

    looked : look_up (d.0) (bindings_at w.advertised k) ≡ Some at.number
    looked = subst (λ m. look_up (d.0) (bindings_at w.advertised m) ≡ Some at.number) (ap (λ (y : Instance). y.contract) (compiled_is s w k st c).is) at.looked

    -- a bound deposit that is live later was live
    pub was_live : is_bound_live next k d ≡ true → is_bound_live w k d ≡ true
    was_live h =
        let r = (lasts_spent spent w.outputs news).last at.number at.bound.output at.bound.there in
        let a : is_deposit (slice_get next.outputs at.number) ≡ true = subst (λ o. names_deposit next o ≡ true) looked h in
        let b : (r.0.live && is_none r.0.holds) ≡ true = subst (λ o. is_deposit o ≡ true) r.1 a in
        let p = and_parts r.0.live (is_none r.0.holds) b in
        let l : at.bound.output.live ≡ true = true_from_ne_false at.bound.output.live (λ e. both_ways _ (r.2.dead e) p.0) in
        let f : is_none at.bound.output.holds ≡ true = ap is_none at.bound.free in
        let q : is_deposit (slice_get w.outputs at.number) ≡ true = subst (λ o. is_deposit o ≡ true) (sym at.bound.there) (and_from _ _ l f) in
        subst (λ o. names_deposit w o ≡ true) (sym looked) q

    -- what the contract's initial transaction takes is gone
    pub is_gone : bare tx ≡ bare (tx_of (initial_unsigned s.hash st)) → is_bound_live next k d ≡ false
    is_gone e =
        let acc = accepting s w tx spent is in
        let j = bare_in (map input_of (persistent_deposits s.hash st)) tx.inputs
        (input_of (deposit s.hash st (d.0) (d.1))) (sym (ap (λ (y : Tx). y.inputs) e)) (spends_in s.hash st (persistent st.advert.pre) d i) in
        let r = spent_at s w tx spent tx.inputs j.0 acc.spends j.1 in
        let m : at.number ≡ r.0 = kept.apart at.number r.0 at.bound.output r.2.output at.bound.there r.2.there (sym at.outpoint ∙ sym j.2 ∙ r.2.outpoint) in
        let z : at.number + 0 ≡ at.number = omega arith in
        let t : has_number (at.number + 0) spent ≡ true = rw (z, m) r.1 in
        let o : slice_get (spend_from 0 spent w.outputs) at.number ≡ Some (record at.bound.output { live = false }) =
        get-spent 0 at.number spent w.outputs ∙ ap (option_map _) at.bound.there ∙ rw t refl in
        let f = get-prefix (spend_from 0 spent w.outputs) news at.number (record at.bound.output { live = false }) o in
        ap (names_deposit next) looked ∙ ap is_deposit f
