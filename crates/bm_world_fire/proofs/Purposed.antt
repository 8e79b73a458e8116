-- What the transactions that are fired are to the contracts.
use Rattle.std.proofs.Common.{◌≡◌, ℕ, List, [], ◌∷◌, length, drop, Bool, true, false, Option, Some, None, refl, sym, ap, ◌∙◌, subst}
use Rattle.std.specs.Prelude.{slice_get, if◌then◌else◌}
use Rattle.std.specs.Option.{option_map_or}
use Rattle.spec_terms.specs.Term as term
use Rattle.spec_terms.specs.Term.{branches}
use Rattle.spec_terms.specs.Core.{core, reveals_of}
use Rattle.spec_terms.specs.Precondition.{persistent}
use Rattle.spec_bitcoin.specs.declared.tx.TxOut.{TxOut}
use Rattle.spec_bitcoin.specs.declared.tx.Tx.{Tx}
use Rattle.spec_bitcoin.specs.Live.{at_place}
use Rattle.spec_bitcoin.specs.Verdict.{spent_number}
use Rattle.spec_calculus.specs.Configuration.{Configuration}
use Rattle.spec_compiler.specs.declared.unsigned.Unsigned.{Unsigned}
use Rattle.spec_compiler.specs.Instance.{Instance}
use Rattle.spec_compiler.specs.Transactions.{input_of, tx_of, prepared, branch_unsigned, initial_unsigned}
use Rattle.spec_compiler.specs.Witness.{chosen_by}
use Rattle.spec_run.specs.Setup.{Setup}
use Rattle.spec_run.specs.World.{ContractPosition, Output, World, live_position, live_position_at}
use Rattle.spec_run.specs.Compiled.{compiled_instance}
use Rattle.spec_run.specs.Conditions.{IsSetup}
use Rattle.spec_run.specs.Firing.{initial_witnesses, initial_transaction, branch_signatures, shown_strings, script_of_position, branch_witness, taking_witnesses, taking_transaction, taking_of_position}
use Rattle.spec_run.specs.Signing.{first_digest}
use Rattle.spec_run.specs.Ledger.{live_from, Begins, Takes, kind_by, kind_of, first_position, initial_of, branch_count, branch_holds, position_path, position_branch}
use Rattle.theory_bitcoin.specs.Apart.{bare}
use Rattle.theory_calculus.proofs.Names.{persistent_deposit}
use Rattle.theory_script.proofs.Scripts.Choosing.{witness_chooses}
use Rattle.theory_world.proofs.Ledger.Acceptable.{live_entry, with-bare}
use Rattle.theory_run.specs.KeptRuns.{KeptBooks}
use Rattle.theory_run.specs.KeptBook.{HeldFine}
use Rattle.theory_run.proofs.Facts.Bookkeeping.{checks}
use Rattle.theory_run.proofs.Facts.OnePosition.{one_initial}
use Rattle.theory_run.proofs.Accepted.Kinded.{counted}
use Rattle.theory_run.proofs.Accepted.WhatItIs.{initial_is, not_initial, at_bound, first_persistent}
use Rattle.theory_run.proofs.Events.Quiet.{IsActive, active}
use Rattle.bm_world_coins.specs.Coined.{position_by}
use Rattle.bm_world_board.specs.declared.pending_change.Purpose.{Purpose}
use Rattle.bm_world_board.specs.Prepares.{with_begun}
use Rattle.bm_world_board.specs.Reaching.{spent_in, IsPurposeOf, IsPurpose}
use Rattle.bm_world_fire.specs.Standing.{IsStanding}
use Rattle.bm_world_fire.proofs.Taken.{taking_whole, within}

-- ---- live outputs by their places

is_live : (o : Output) (held : ContractPosition) → live_position (Some o) ≡ Some held → o.live ≡ true
is_live o held h = by_live o.live refl h
  where
    by_live : (b : Bool) → o.live ≡ b → (if b then o.holds else None) ≡ Some held → o.live ≡ true
    by_live true e q = e
    by_live false e q = cc

-- the number of the output at a place
entry_number : (w : World) → ((m n : ℕ) (o p : Output) → slice_get w.outputs m ≡ Some o → slice_get w.outputs n ≡ Some p
    → o.outpoint ≡ p.outpoint → m ≡ n) → (n : ℕ) (o : Output) → slice_get w.outputs n ≡ Some o → o.live ≡ true
    → option_map_or (λ (p : ℕ × TxOut). p.0) (at_place (live_from 0 w.outputs) o.outpoint) 0 ≡ n
entry_number w apart n o there live = ap (λ (r : Option (ℕ × TxOut)). option_map_or (λ (p : ℕ × TxOut). p.0) r 0) (live_entry w apart n o there live)

-- ---- initial transactions

module _ (s : Setup) (setup : IsSetup s) (g : Configuration) (w : World) (keeps : KeptBooks s g w) where
  -- the initial transaction of a contract begins it
  start_begins : (k : ℕ) (st : Instance) → compiled_instance s w k ≡ Some st → (spent : List ℕ) → kind_of s w (initial_transaction s st) spent
      ≡ Begins k
  start_begins k st compiled spent =
      ap (λ o. kind_by s (initial_transaction s st) spent o (first_position w spent)) (by_contract (initial_of s w (initial_transaction s st)) refl)
    where
      same_bare : bare (initial_transaction s st) ≡ bare (tx_of (initial_unsigned s.hash st))
      same_bare = with-bare (tx_of (initial_unsigned s.hash st)) (initial_witnesses s st (prepared s.hash (initial_unsigned s.hash st)))

      by_contract : (o : Option ℕ) → initial_of s w (initial_transaction s st) ≡ o → o ≡ Some k
      by_contract None e = absurd (not_initial s w (initial_transaction s st) k st e compiled same_bare)
      by_contract (Some j) e =
          let is = initial_is s w (initial_transaction s st) j e in
          let q = one_initial s setup.hash setup.few_contracts w
          (checks s setup g w keeps) w.hashed keeps.clear keeps.book.heard k j st is.instance compiled is.compiled (sym same_bare ∙ is.is) in
          ap Some (sym q)

  pub start_purpose : (k : ℕ) (st : Instance) → compiled_instance s w k ≡ Some st → (tx : Tx) → tx ≡ initial_transaction s st → (p : Purpose)
      → ((i : ℕ) → position_by p.positions i ≡ Some (record { contract = k; position = [] })) → p.begins ≡ Some k → IsPurpose s w tx p
  start_purpose k st compiled tx is p positions begins =
      subst (λ t. IsPurpose s w t p) (sym is) (subst (λ kind. IsPurposeOf s kind p)
      (sym (start_begins k st compiled (spent_in w (initial_transaction s st)))) (record {
        positions = positions;
        begins = λ begun. ap (λ o. with_begun o begun) begins;
      }))

  -- ---- the transaction of a branch

  module _ (n j : ℕ) (held : ContractPosition) (live : live_position_at w n ≡ Some held) (b : term.Guarded) (there : position_branch s held j ≡ Some b) where
    abbrev out : IsActive w n held
    out = active w n held live

    abbrev fine : HeldFine s w out.output held
    fine = keeps.book.held n out.output held out.there out.holds

    abbrev is : IsStanding s w held
    is = record { instance = fine.instance; compiled = fine.compiled; here = fine.here; choice = fine.choice; stands = fine.stands }

    abbrev unsigned : Unsigned
    unsigned = branch_unsigned s.hash fine.instance fine.here j b

    abbrev tx : Tx
    tx = taking_transaction s w fine.instance held j fine.choice b (prepared s.hash unsigned)

    -- it is no initial transaction
    no_initial : initial_of s w tx ≡ None
    no_initial = by_contract (initial_of s w tx) refl
      where
        same_bare : bare tx ≡ bare (tx_of unsigned)
        same_bare = with-bare (tx_of unsigned) (taking_witnesses s w fine.instance held j fine.choice b (prepared s.hash unsigned))

        by_contract : (o : Option ℕ) → initial_of s w tx ≡ o → o ≡ None
        by_contract None e = refl
        by_contract (Some k) e =
            let first = initial_is s w tx k e in
            let same : bare (tx_of unsigned) ≡ bare (tx_of (initial_unsigned s.hash first.instance)) = sym same_bare ∙ first.is in
            let d = first_persistent s.hash first.instance
            (persistent first.instance.advert.pre) (input_of fine.here.output) _ (ap (λ (y : Tx). y.inputs) same) in
            let a = at_bound s g w keeps.book k first.instance first.compiled (d.0.0) (d.0.1) (persistent_deposit first.instance.advert.pre d.0 d.1) in
            let m = keeps.book.apart n a.number out.output a.bound.output out.there a.bound.there (fine.outpoint ∙ d.2 ∙ a.outpoint) in
            let o : (let y : Option Output = Some out.output in y) ≡ Some a.bound.output = sym out.there ∙ ap (slice_get w.outputs) m ∙ a.bound.there in
            let f : out.output ≡ a.bound.output = cc in
            let x : Some held ≡ None = sym out.holds ∙ ap (λ (y : Output). y.holds) f ∙ a.bound.free in
            cc

    -- it takes the branch of what the output holds
    fired_takes : kind_of s w tx (spent_in w tx) ≡ Takes held n j
    fired_takes =
        let alive : out.output.live ≡ true = is_live out.output held (sym (ap live_position out.there) ∙ live) in
        let number : spent_number (live_from 0 w.outputs) (record (input_of fine.here.output)
        { witness = branch_witness s w fine.instance held j fine.choice b (first_digest (prepared s.hash unsigned)) }) ≡ n =
        ap (λ p. option_map_or (λ (q : ℕ × TxOut). q.0) (at_place (live_from 0 w.outputs) p) 0) (sym fine.outpoint)
        ∙ entry_number w keeps.book.apart n out.output out.there alive in
        let rest = drop 1 (spent_in w tx) in
        let witness = branch_witness s w fine.instance held j fine.choice b (first_digest (prepared s.hash unsigned)) in
        let chosen : chosen_by (branch_count s held) witness ≡ j =
        ap (λ m. chosen_by m witness) (counted s w held out.output fine)
        ∙ witness_chooses (length (branches fine.choice)) j
        (branch_signatures s fine.instance (position_path held j) (first_digest (prepared s.hash unsigned)))
        (shown_strings s w fine.instance (reveals_of (core b))) (script_of_position s fine.instance held fine.choice)
        (within s w held is j b there) in
        (λ i. kind_of s w tx (number i ∷ rest)) ∙ (λ i. kind_by s tx (n ∷ rest) (no_initial i) (live i)) ∙ ap (Takes held n) chosen

    pub taking_purpose : (t : Tx) → Some t ≡ taking_of_position s w (Some held) j → (p : Purpose)
        → ((k : ℕ) → position_by p.positions k ≡ branch_holds held.contract (position_path held j) (Some b) k) → p.begins ≡ None
        → IsPurpose s w t p
    taking_purpose t made p positions begins =
        let same : (let y : Option Tx = Some t in y) ≡ Some tx = made ∙ taking_whole s w held is j b there in
        let z : t ≡ tx = cc in
        subst (λ x. IsPurpose s w x p) (sym z) (subst (λ kind. IsPurposeOf s kind p) (sym fired_takes) (record {
          positions = λ k. positions k ∙ ap (λ o. branch_holds held.contract (position_path held j) o k) (sym there);
          begins = λ begun. ap (λ o. with_begun o begun) begins;
        }))
