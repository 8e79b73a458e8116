-- Honest parties' steps come only with their own events: the steps of what is revealed, moved, begun and taken.
use Rattle.std.proofs.Common.{◌≡◌, ℕ, List, [], ◌∷◌, ◌++◌, map, Bool, true, false, not, Option, Some, None, refl, sym, ap, ◌∙◌, subst, inl, inr}
use Rattle.std.specs.Prelude.{◌==◌, ◌&&◌, if◌then◌else◌}
use Rattle.std.specs.List.{filter}
use Rattle.std.specs.Option.{is_none}
use Rattle.std.specs.Str.{bytes_eq}
use Rattle.std.proofs.lemmas.Bool.{and_parts, and_from, or_left, or_right, both_ways, not-true, eq-eqb}
use Rattle.spec_data.specs.Lists.{is_among, has_number, look_up}
use Rattle.spec_terms.specs.Term as term
use Rattle.spec_terms.specs.Term.{branches, put_reveal, withdraw, split, auth, after}
use Rattle.spec_terms.specs.Core.{core, is_asked}
use Rattle.spec_terms.specs.Precondition.{Holding, persistent}
use Rattle.spec_bitcoin.specs.declared.tx.TxIn.{TxIn}
use Rattle.spec_bitcoin.specs.declared.tx.Tx.{Tx}
use Rattle.spec_bitcoin.specs.Digests.{digest}
use Rattle.spec_calculus.specs.Configuration.{Configuration}
use Rattle.spec_calculus.specs.Beginning.{is_init_authorised}
use Rattle.spec_calculus.specs.Branches.{has_branch_authorised}
use Rattle.spec_calculus.specs.declared.parts.Revealed.{Revealed}
use Rattle.spec_calculus.specs.declared.step.Owner.{Owner}
use Rattle.spec_calculus.specs.declared.step.Owner.TheVariants.{Party, Outside}
use Rattle.spec_calculus.specs.declared.step.Move.{Move}
use Rattle.spec_calculus.specs.declared.step.Step.{Step}
use Rattle.spec_calculus.specs.declared.step.Step.TheVariants as steps
use Rattle.spec_compiler.specs.Instance.{Instance, people}
use Rattle.spec_compiler.specs.Transactions.{input_of, deposit, persistent_deposits}
use Rattle.spec_run.specs.declared.event.Event.{Event}
use Rattle.spec_run.specs.declared.outcome.Record.{Record}
use Rattle.spec_run.specs.Setup.{Setup, is_honest, pre_of, pre_at, people_of, people_at}
use Rattle.spec_run.specs.World.{ContractPosition, Output, World, output_at, is_deposit, live_position_at, live_position, bindings_at}
use Rattle.spec_run.specs.Owners.{paid_to, owner_of}
use Rattle.spec_run.specs.Conditions.{IsSetup}
use Rattle.spec_run.specs.Secrets.{all_secrets, shown}
use Rattle.spec_run.specs.Ledger.{initial_of, first_position, Begins, Takes, Moves, kind_by, kind_of}
use Rattle.spec_run.specs.Steps.{reveal_step, reveals, parties_once, move_of, auth_move, owners_of, move_steps, auth_inits, unauthorised, begin_steps, auth_branch, is_awaited, core_step, branch_steps, kind_steps, names_deposit, is_bound_live}
use Rattle.spec_run.specs.Licence.{IsInitOf, IsAuthoriseOf, IsRevealOf, IsGiveOf, Licensed}
use Rattle.theory_calculus.specs.Members.{Is_in}
use Rattle.theory_calculus.proofs.Members.{in_filter}
use Rattle.theory_calculus.proofs.Names.{persistent_deposit}
use Rattle.theory_run.proofs.Accepted.Unmade.{in_images}
use Rattle.theory_run.proofs.Events.Advertised.{none_is}
use Rattle.theory_world.specs.KeptApart.{NoCollision}
use Rattle.theory_world.specs.Transactions.{IsNumbered}
use Rattle.theory_world.proofs.Ledger.Accepting.{IsSpent, Accepting, HeardAll}
use Rattle.theory_run.specs.KeptBook.{KeptBook, HeldFine}
use Rattle.theory_world.proofs.Later.{compiled_is}
use Rattle.theory_run.proofs.Accepted.Spending.{TransactionsFit, Checked}
use Rattle.theory_run.proofs.Accepted.Accept.{spent_at, bare_in}
use Rattle.theory_run.proofs.Accepted.WhatItIs.{First, first, first_holds, IsInitial, initial_is, AtBound, at_bound}
use Rattle.theory_run.proofs.Accepted.Kinded.{looked_branch, first_taken, Taken, kind_opened}
use Rattle.theory_world.proofs.Contracts.Endorsed.{in_map, in_among}
use Rattle.theory_run.proofs.Honest.Leaves.{KeptLeave}
use Rattle.theory_run.proofs.Honest.Deposits.{input_for, advert_of, Took, put_took, start_took, took, put_kind, start_kind}
use Rattle.theory_run.proofs.Honest.HonestSpends.{Owns, owns}

-- ---- lists of steps

pub licensed_append : (s : Setup) (e : Event) (xs ys : List Step) → Licensed s e xs → Licensed s e ys → Licensed s e (xs ++ ys)
licensed_append s e [] ys h k = k
licensed_append s e (x ∷ xs) ys h k = (h.0, licensed_append s e xs ys h.1 k)

-- what comes to be shown, where each honest party's is revealed by the event
pub licensed_reveals : (s : Setup) (e : Event) (w next : World)
    → ((x : Revealed) → shown s next x ≡ true → shown s w x ≡ false → is_honest s x.party ≡ true → IsRevealOf e x.contract x.party x.secret)
    → Licensed s e (reveals s w next)
licensed_reveals s e w next h = each (all_secrets s)
  where
    each : (xs : List Revealed) → Licensed s e (map reveal_step (filter (λ x. shown s next x && not (shown s w x)) xs))
    each [] = tt
    each (x ∷ xs) = by_test (shown s next x && not (shown s w x)) refl (each xs)
      where
        by_test : (b : Bool) → (shown s next x && not (shown s w x)) ≡ b
            → Licensed s e (map reveal_step (filter (λ y. shown s next y && not (shown s w y)) xs))
            → Licensed s e (map reveal_step (if b then x
            ∷ filter (λ y. shown s next y && not (shown s w y)) xs else filter (λ y. shown s next y && not (shown s w y)) xs))
        by_test true t r = let p = and_parts (shown s next x) (not (shown s w x)) t in (λ honest. h x p.0 (not-true _ p.1) honest, r)
        by_test false t r = r

pub licensed_moves : (s : Setup) (e : Event) (action : Move) (ps : List (List ℕ))
    → ((p : List ℕ) → Is_in p ps → is_honest s p ≡ true → IsGiveOf e p action) → Licensed s e (map (auth_move action) ps)
licensed_moves s e action [] h = tt
licensed_moves s e action (p ∷ ps) h = (h p (inl refl), licensed_moves s e action ps (λ q i. h q (inr i)))

pub licensed_inits : (s : Setup) (e : Event) (k : ℕ) (ds : List (List ℕ × Holding))
    → ((d : List ℕ × Holding) → Is_in d ds → is_honest s (d.1).owner ≡ true → IsInitOf e k (d.1).owner) → Licensed s e (auth_inits k ds)
licensed_inits s e k [] h = tt
licensed_inits s e k (d ∷ ds) h = (h d (inl refl), licensed_inits s e k ds (λ q i. h q (inr i)))

pub licensed_branches : (s : Setup) (e : Event) (n i : ℕ) (ps : List (List ℕ))
    → ((p : List ℕ) → Is_in p ps → is_honest s p ≡ true → IsAuthoriseOf e p n i) → Licensed s e (map (auth_branch n i) ps)
licensed_branches s e n i [] h = tt
licensed_branches s e n i (p ∷ ps) h = (h p (inl refl), licensed_branches s e n i ps (λ q j. h q (inr j)))

licensed_core : (s : Setup) (e : Event) (n i : ℕ) (c : term.Guarded) → Licensed s e (core_step n i c)
licensed_core s e n i (put_reveal puts reveals test next) = (tt, tt)
licensed_core s e n i (withdraw party) = (tt, tt)
licensed_core s e n i (split parts) = (tt, tt)
licensed_core s e n i (auth party body) = tt
licensed_core s e n i (after height body) = tt

-- ---- owners

in_once : (os : List Owner) (p : List ℕ) → Is_in p (parties_once os) → Is_in (Party p) os
in_once [] p h = absurd h
in_once (Outside ∷ os) p h = inr (in_once os p h)
in_once (Party q ∷ os) p (inl e) = inl (ap Party e)
in_once (Party q ∷ os) p (inr h) = inr (in_once os p (in_filter (λ other. not (bytes_eq other q)) (parties_once os) p h).0)

number_in : (ns : List ℕ) (n : ℕ) → Is_in n ns → has_number n ns ≡ true
number_in [] n h = absurd h
number_in (m ∷ ns) n (inl e) = or_left _ _ (eq-eqb m n (sym e))
number_in (m ∷ ns) n (inr h) = or_right (m == n) _ (number_in ns n h)

-- whose deposits a transaction spends
pub owner_spent : (s : Setup) (w : World) (spent : List ℕ) (p : List ℕ) → Is_in p (parties_once (owners_of s w spent)) → (n : ℕ)
    × (has_number n spent ≡ true) × (owner_of s (output_at w n) ≡ Party p)
owner_spent s w spent p h =
    let r = in_map (λ n. owner_of s (output_at w n)) spent (Party p) (in_once (owners_of s w spent) p h) in
    (r.0, number_in spent r.0 r.1, sym r.2)

module _ (s : Setup) (setup : IsSetup s) (before : List Record) (g : Configuration) (w : World) (kept : KeptBook s g w)
    (fit : TransactionsFit s w) (check : Checked s w) (leave : KeptLeave s before g w) (clear : NoCollision s.hash w.hashed)
    (hs : List (List ℕ)) (clear_hs : NoCollision s.hash hs) (sub : (t : List ℕ) → is_among t w.hashed ≡ true → is_among t hs ≡ true)
    (tx : Tx) (fits : IsNumbered tx) (spent : List ℕ) (acc : Accepting s w tx spent) (all : HeardAll s w hs tx) (e : Event) where
  abbrev fst : First s setup.hash g w kept fit check hs clear_hs sub tx fits spent acc all
  fst = first s setup.hash g w kept fit check hs clear_hs sub tx fits spent acc all

  -- ---- moves

  -- no honest party's deposit is moved without its gift
  no_honest : kind_of s w tx spent ≡ Moves → (p : List ℕ) → Is_in p (parties_once (owners_of s w spent)) → is_honest s p ≡ true → ⊥
  no_honest kind p h honest =
      let r = owner_spent s w spent p h in
      let o = owns s w p r.0 r.2 in
      let i = input_for s w tx spent tx.inputs r.0 acc.spends r.1 in
      let sp = i.2 in
      let x : (let y : Option Output = Some sp.output in y) ≡ Some o.output = sym sp.there ∙ o.there in
      let f : sp.output ≡ o.output = cc in
      let paid = ap (λ (y : Output). y.script) f ∙ o.paid in
      let free = ap (λ (y : Output). y.holds) f ∙ none_is o.output.holds (and_parts o.output.live (is_none o.output.holds) o.deposit).1 in
      by_took r.0 o i.0 i.1 sp paid free (took s setup before g w kept fit check leave clear hs clear_hs sub tx fits spent acc all p
      o.declared r.0 i.0 i.1 sp paid free honest)
    where
      by_took : (n : ℕ) (o : Owns s w p n) (i : TxIn) (here : Is_in i tx.inputs) (sp : IsSpent s w tx n i)
          (paid : sp.output.script ≡ paid_to s p) (free : sp.output.holds ≡ None)
          → Took s setup before g w kept fit check leave clear hs clear_hs sub tx fits spent acc all p o.declared n i here sp paid free honest → ⊥
      by_took n o i here sp paid free (put_took h q was) =
          let k =
          (put_kind s setup before g w kept fit check leave clear hs clear_hs sub tx fits spent acc all p o.declared n i here sp paid free honest h q).1 in
          let z = sym kind ∙ k in cc
      by_took n o i here sp paid free (start_took h q was) =
          let k = start_kind s setup before g w kept
          fit check leave clear hs clear_hs sub tx fits spent acc all p o.declared n i here sp paid free honest h q in
          let z = sym kind ∙ k in cc

  pub move_licensed : kind_of s w tx spent ≡ Moves → Licensed s e (move_steps s w tx spent)
  move_licensed kind =
      licensed_append s e (map (auth_move (move_of s tx spent)) (parties_once (owners_of s w spent))) (steps.Move (move_of s tx spent) ∷ [])
      (licensed_moves s e (move_of s tx spent) (parties_once (owners_of s w spent)) (λ p h honest. absurd (no_honest kind p h honest))) (tt, tt)

  -- ---- beginnings

  -- an honest party's deposit that an initial transaction takes is authorised
  init_given : (k : ℕ) → initial_of s w tx ≡ Some k → kind_of s w tx spent ≡ Begins k → (d : List ℕ × Holding)
      → Is_in d (persistent (pre_at s k)) → is_honest s (d.1).owner ≡ true → is_init_authorised g.init_authorised k (d.0) ≡ true
  init_given k i0 kind d there honest =
      by_took (took s setup before g w kept fit check leave clear hs clear_hs sub tx fits spent acc all (d.1).owner at.bound.declared
      at.number r.0 r.1 sp paid free honest)
    where
      is : IsInitial s w tx k
      is = initial_is s w tx k i0

      pre_is : pre_at s k ≡ is.instance.advert.pre
      pre_is = ap pre_of (advert_of s w k is.instance is.compiled)

      listed : Is_in d (persistent is.instance.advert.pre)
      listed = subst (λ pre. Is_in d (persistent pre)) pre_is there

      at : AtBound s w is.instance (d.0) (d.1)
      at = at_bound s g w kept k is.instance is.compiled (d.0) (d.1) (persistent_deposit is.instance.advert.pre d listed)

      number : is.instance.contract ≡ k
      number = ap (λ (y : Instance). y.contract) (compiled_is s w k is.instance is.compiled).is

      r : (i : TxIn) × Is_in i tx.inputs × (i.prev ≡ (deposit s.hash is.instance (d.0) (d.1)).outpoint)
      r = bare_in (map input_of (persistent_deposits s.hash is.instance)) tx.inputs (input_of (deposit s.hash is.instance (d.0) (d.1)))
          (ap (λ (x : Tx). x.inputs) (sym is.is))
          (in_images input_of (persistent_deposits s.hash is.instance) (deposit s.hash is.instance (d.0) (d.1))
          (in_images (λ (x : List ℕ × Holding). deposit s.hash is.instance x.0 x.1) (persistent is.instance.advert.pre) d listed))

      found : (n : ℕ) × (has_number n spent ≡ true) × IsSpent s w tx n r.0
      found = spent_at s w tx spent tx.inputs r.0 acc.spends r.1

      same : found.0 ≡ at.number
      same = kept.apart found.0 at.number found.2.output at.bound.output found.2.there at.bound.there (sym found.2.outpoint ∙ r.2 ∙ at.outpoint)

      sp : IsSpent s w tx at.number r.0
      sp = subst (λ n. IsSpent s w tx n r.0) same found.2

      outs : sp.output ≡ at.bound.output
      outs = let x : (let y : Option Output = Some sp.output in y) ≡ Some at.bound.output = sym sp.there ∙ at.bound.there in cc

      paid : sp.output.script ≡ paid_to s (d.1).owner
      paid = ap (λ (y : Output). y.script) outs ∙ at.bound.script

      free : sp.output.holds ≡ None
      free = ap (λ (y : Output). y.holds) outs ∙ at.bound.free

      live : is_bound_live w k d ≡ true
      live =
          let a : look_up (d.0) (bindings_at w.advertised k) ≡ Some at.number = ap (λ m. look_up (d.0) (bindings_at w.advertised m)) (sym number) ∙ at.looked in
          ap (names_deposit w) a ∙ ap is_deposit sp.there ∙ and_from _ _ sp.live (ap is_none free)

      by_took : Took s setup before g w kept fit check leave clear hs clear_hs sub tx fits spent acc all (d.1).owner at.bound.declared
          at.number r.0 r.1 sp paid free honest → is_init_authorised g.init_authorised k (d.0) ≡ true
      by_took (put_took h q was) =
          let x = (put_kind s setup before g w kept fit check leave clear hs clear_hs sub tx fits spent acc all
          (d.1).owner at.bound.declared at.number r.0 r.1 sp paid free honest h q).1 in
          let z = sym kind ∙ x in cc
      by_took (start_took h q was) =
          let x = start_kind s setup before g w kept fit check leave clear hs clear_hs sub tx fits spent acc all
          (d.1).owner at.bound.declared at.number r.0 r.1 sp paid free honest h q in
          let z = sym x ∙ kind in
          let c : h.contract ≡ k = cc in
          subst (λ m. is_init_authorised g.init_authorised m (d.0) ≡ true) c
          (h.authorised d (subst (λ m. Is_in d (persistent (pre_at s m))) (sym c) there) refl (subst (λ m. is_bound_live w m d ≡ true) (sym c) live))

  pub begin_licensed : (k : ℕ) → initial_of s w tx ≡ Some k → kind_of s w tx spent ≡ Begins k → Licensed s e (begin_steps s g k)
  begin_licensed k i0 kind =
      licensed_append s e (auth_inits k (unauthorised g k (persistent (pre_at s k)))) (steps.Init k ∷ [])
      (licensed_inits s e k (unauthorised g k (persistent (pre_at s k))) (λ d h honest.
      let f = in_filter (λ (x : List ℕ × Holding). not (is_init_authorised g.init_authorised k (x.0))) (persistent (pre_at s k)) d h in
      absurd (both_ways _ (not-true _ f.1) (init_given k i0 kind d f.0 honest)))) (tt, tt)

  -- ---- branches

  module _ (h : ContractPosition) (holds : fst.spends.output.holds ≡ Some h) (i0 : initial_of s w tx ≡ None) where
    hf : HeldFine s w fst.spends.output h
    hf = kept.held fst.number fst.spends.output h fst.spends.there holds

    taking : Taken s setup.hash setup.few_contracts g w kept fit check hs clear_hs sub tx fits spent acc all h hf
    taking = first_taken s setup.hash setup.few_contracts g w kept fit check hs clear_hs sub tx fits spent acc all h hf

    kind_is : kind_of s w tx spent ≡ Takes h fst.number taking.opened.i
    kind_is = kind_opened s setup.hash setup.few_contracts g w kept fit check hs clear_hs sub tx fits spent acc all h holds i0 hf taking

    here_held : live_position_at w fst.number ≡ Some h
    here_held = ap live_position fst.spends.there ∙ rw fst.spends.live holds

    -- an honest party that the branch asks has authorised it
    asked_given : (p : List ℕ) → Is_in p (people_at s h.contract) → is_honest s p ≡ true → is_asked taking.opened.b p ≡ true
        → has_branch_authorised g.branch_authorised fst.number taking.opened.i p ≡ true
    asked_given p there honest asks =
        let part : is_among p (people hf.instance) ≡ true =
        subst (λ o. is_among p (people_of o) ≡ true) (advert_of s w h.contract hf.instance hf.compiled) (in_among (people_at s h.contract) p there) in
        let bc = kept.branch_pairs h.contract hf.instance h.position hf.here hf.choice taking.opened.i taking.opened.b p
        (digest s.hash tx fst.input hf.here.output.script fst.spends.output.value) hf.compiled hf.stands taking.opened.is_branch part honest
        (taking.signed p part) in
        bc.authorised asks fst.number here_held

    taken_steps : Licensed s e (branch_steps g (people_at s h.contract) fst.number taking.opened.i (Some taking.opened.b))
    taken_steps =
        let b = taking.opened.b in
        let waits = is_awaited g fst.number taking.opened.i b in
        licensed_append s e (map (auth_branch fst.number taking.opened.i) (filter waits (people_at s h.contract)))
        (core_step fst.number taking.opened.i (core b))
        (licensed_branches s e fst.number taking.opened.i (filter waits (people_at s h.contract)) (λ p x honest.
        let f = in_filter waits (people_at s h.contract) p x in
        let t = and_parts (is_asked b p) (not (has_branch_authorised g.branch_authorised fst.number taking.opened.i p)) f.1 in
        absurd (both_ways _ (not-true _ t.1) (asked_given p f.0 honest t.0)))) (licensed_core s e fst.number taking.opened.i (core b))

    pub take_licensed : Licensed s e (kind_steps s g w tx spent (kind_of s w tx spent))
    take_licensed =
        let b = looked_branch s w h fst.spends.output hf taking.opened.i taking.opened.b taking.opened.is_branch in
        subst (λ k. Licensed s e (kind_steps s g w tx spent k)) (sym kind_is)
        (subst (λ o. Licensed s e (branch_steps g (people_at s h.contract) fst.number taking.opened.i o)) (sym b) taken_steps)

  -- ---- whatever it is

  pub kind_licensed : Licensed s e (kind_steps s g w tx spent (kind_of s w tx spent))
  kind_licensed = by_initial (initial_of s w tx) refl
    where
      by_held : initial_of s w tx ≡ None → (o : Option ContractPosition) → first_position w spent ≡ o
          → Licensed s e (kind_steps s g w tx spent (kind_of s w tx spent))
      by_held i None f =
          let k : kind_of s w tx spent ≡ Moves = λ j. kind_by s tx spent (i j) (f j) in
          subst (λ x. Licensed s e (kind_steps s g w tx spent x)) (sym k) (move_licensed k)
      by_held i (Some h) f = take_licensed h (sym (first_holds s setup.hash g w kept fit check hs clear_hs sub tx fits spent acc all) ∙ f) i

      by_initial : (o : Option ℕ) → initial_of s w tx ≡ o → Licensed s e (kind_steps s g w tx spent (kind_of s w tx spent))
      by_initial None i = by_held i (first_position w spent) refl
      by_initial (Some k) i =
          let x : kind_of s w tx spent ≡ Begins k = ap (λ o. kind_by s tx spent o (first_position w spent)) i in
          subst (λ y. Licensed s e (kind_steps s g w tx spent y)) (sym x) (begin_licensed k i x)
