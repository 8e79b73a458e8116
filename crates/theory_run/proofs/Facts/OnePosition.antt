-- Positions that are paid to the same are one, in one world.
use Rattle.std.proofs.Common.{◌≡◌, ℕ, ◌<◌, ◌≤◌, List, [], ◌∷◌, ◌++◌, length, true, Some, refl, sym, ap, ◌∙◌, subst, arith}
use Rattle.std.specs.Prelude.{slice_get}
use Rattle.spec_data.specs.Lists.{is_among}
use Rattle.spec_terms.specs.Term as term
use Rattle.spec_terms.specs.Term.{Contract, branches}
use Rattle.spec_terms.specs.declared.path.PathStep.{PathStep}
use Rattle.spec_terms.specs.declared.path.PathStep.TheVariants.{Branch as To}
use Rattle.spec_bitcoin.specs.declared.tx.TxOut.{TxOut}
use Rattle.spec_bitcoin.specs.declared.tx.Tx.{Tx}
use Rattle.spec_bitcoin.specs.Keys.{label_text, pay_to, IsLabel}
use Rattle.spec_bitcoin.specs.Scripts.{script_ops}
use Rattle.spec_compiler.specs.Instance.{Instance, branch_path, branch_label, branch_keys, position_script}
use Rattle.spec_compiler.specs.Scripts.{demands_from}
use Rattle.spec_compiler.specs.Statements.{IsCompiled}
use Rattle.spec_compiler.specs.Transactions.{Standing, tx_of, initial_unsigned, root_standing}
use Rattle.spec_compiler.specs.ByPath.{position_at}
use Rattle.spec_run.specs.Setup.{Setup}
use Rattle.spec_run.specs.World.{World}
use Rattle.spec_run.specs.Compiled.{compiled_instance}
use Rattle.spec_run.specs.Conditions.{HashesBytes}
use Rattle.theory_bitcoin.specs.Apart.{bare}
use Rattle.theory_script.proofs.Scripts.Opened.{is_checked}
use Rattle.theory_script.proofs.Listing.Stands.{position_stands}
use Rattle.theory_world.specs.KeptApart.{NoCollision}
use Rattle.theory_world.proofs.Later.{compiled_is}
use Rattle.theory_world.proofs.Contracts.Standing.{term_choice, root_position}
use Rattle.theory_world.proofs.Contracts.Keyed.{ScriptKey, script_key, one_position}
use Rattle.theory_run.proofs.Accepted.Spending.{Checked, script_heard}
use Rattle.spec_compiler.specs.Hashed.{compiled_strings}
use Rattle.theory_run.proofs.Facts.Labelled.{compiled_label}

pub pays_same : (hash : List ℕ → List ℕ) (hs : List (List ℕ)) → NoCollision hash hs → (a b : List ℕ) → is_among a hs ≡ true → is_among b hs
    ≡ true → pay_to (hash a) ≡ pay_to (hash b) → a ≡ b
pays_same hash hs clear a b ha hb e = let h : hash a ≡ hash b = cc in clear.one a b ha hb h

module _ (s : Setup) (size : HashesBytes s.hash) (few_contracts : length s.contracts ≤ 16) (w : World) (check : Checked s w)
    (hs : List (List ℕ)) (clear : NoCollision s.hash hs)
    (heard : (k : ℕ) (st : Instance) → compiled_instance s w k ≡ Some st
    → (t : List ℕ) → is_among t (compiled_strings s.hash st) ≡ true → is_among t hs ≡ true) where
  abbrev pub Key : Instance → List PathStep → Contract → Type 0
  Key st q choice = (a : ScriptKey s.hash st q (position_script s.hash st q choice))
      × IsLabel (branch_label st.contract (q ++ To 0 ∷ []) a.person) × (is_among (label_text (branch_label st.contract (q ++ To 0 ∷ []) a.person)) hs ≡ true)

  pub position_key : (k : ℕ) (st : Instance) (q : List PathStep) (here : Standing) (choice : Contract) → compiled_instance s w k ≡ Some st
      → position_at s.hash st q ≡ Some (here, choice) → Key st q choice
  position_key k st q here choice c e = by_branches (branches choice) refl (is_checked s.hash st q choice size.size comp).some_branch
    where
      comp : IsCompiled st q choice
      comp = record { checked = check.checked k st c; committed = check.committed k st c; is_position = term_choice s.hash st q here choice e }

      by_branches : (bs : List term.Guarded) → branches choice ≡ bs
          → 0 < length (demands_from (λ i. branch_keys s.hash st (branch_path q i)) st.hashes 0 bs) → Key st q choice
      by_branches [] f h = absurd (omega (arith, h))
      by_branches (b ∷ bs) f h =
          let there : slice_get (branches choice) 0 ≡ Some b = ap (λ xs. slice_get xs 0) f in
          let key = script_key s.hash st q choice size.size comp b there in
          let sc : st.contract ≡ k = ap (λ (y : Instance). y.contract) (compiled_is s w k st c).is in
          let l = compiled_label s few_contracts w check hs heard k st q here choice 0 b key.person c e there key.takes_part in (
            key,
            subst (λ n. IsLabel (branch_label n (q ++ To 0 ∷ []) key.person)) (sym sc) l.0,
            subst
                (λ n. is_among (label_text (branch_label n (q ++ To 0 ∷ []) key.person)) hs ≡ true) (sym sc) l.1,
          )

  pub same_position : (k j : ℕ) (st su : Instance) (q r : List PathStep) (here there : Standing) (c d : Contract) → compiled_instance s w k
      ≡ Some st → compiled_instance s w j ≡ Some su → position_at s.hash st q ≡ Some (here, c) → position_at s.hash su r ≡ Some (there, d)
      → pay_to (s.hash (position_script s.hash st q c)) ≡ pay_to (s.hash (position_script s.hash su r d)) → (st.contract ≡ su.contract) × (q ≡ r)
  same_position k j st su q r here there c d ck cj eq er p =
      let a = position_key k st q here c ck eq in
      let b = position_key j su r there d cj er in
      let ha : is_among (position_script s.hash st q c) hs ≡ true =
      subst (λ x. is_among x hs ≡ true) (position_stands s.hash st q here c eq).script (script_heard s.hash st hs (heard k st ck) q here c eq) in
      let hb : is_among (position_script s.hash su r d) hs ≡ true =
      subst (λ x. is_among x hs ≡ true) (position_stands s.hash su r there d er).script (script_heard s.hash su hs (heard j su cj) r there d er) in
      let e = pays_same s.hash hs clear (position_script s.hash st q c) (position_script s.hash su r d) ha hb p in
      one_position s.hash size.size hs clear st su q r (position_script s.hash su r d)
      (record {
        person = a.0.person;
        takes_part = a.0.takes_part;
        ops = a.0.ops;
        spells = ap script_ops (sym e)
            ∙ a.0.spells;
        first = a.0.first;
        branch = a.0.branch;
      }) b.0 a.1 b.1 a.2 b.2

  abbrev first_script : List TxOut → List ℕ
  first_script [] = []
  first_script (o ∷ os) = o.script

  -- one contract has an initial transaction
  pub one_initial : (k j : ℕ) (st su : Instance) → compiled_instance s w k ≡ Some st → compiled_instance s w j ≡ Some su
      → bare (tx_of (initial_unsigned s.hash st)) ≡ bare (tx_of (initial_unsigned s.hash su)) → k ≡ j
  one_initial k j st su ck cj e =
      let p : pay_to (s.hash (position_script s.hash st [] st.advert.root)) ≡ pay_to (s.hash (position_script s.hash su [] su.advert.root)) =
      ap (λ (y : Tx). first_script y.outputs) e in
      let r = same_position k j st su [] [] (root_standing s.hash st)
      (root_standing s.hash su) st.advert.root su.advert.root ck cj (root_position s.hash st) (root_position s.hash su) p in
      let a : st.contract ≡ k = ap (λ (y : Instance). y.contract) (compiled_is s w k st ck).is in
      let b : su.contract ≡ j = ap (λ (y : Instance). y.contract) (compiled_is s w j su cj).is in
      sym a ∙ r.0 ∙ b
