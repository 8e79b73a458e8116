-- The script of a position is no deposit's, so a gift is no contract's initial transaction.
use Rattle.std.proofs.Common.{◌≡◌, ℕ, ◌≤◌, List, [], ◌∷◌, ◌++◌, length, map, Bool, true, Some, refl, sym, ap, ◌∙◌, subst, arith}
use Rattle.std.specs.List.{list_all}
use Rattle.std.specs.Str.{bytes_eq}
use Rattle.std.proofs.lemmas.Bool.{and_parts, and_from}
use Rattle.spec_data.specs.Lists.{is_among}
use Rattle.spec_terms.specs.Term.{Contract}
use Rattle.spec_terms.specs.declared.path.PathStep.{PathStep}
use Rattle.spec_terms.specs.declared.path.PathStep.TheVariants.{Branch as To}
use Rattle.spec_bitcoin.specs.declared.tx.Tx.{Tx}
use Rattle.spec_bitcoin.specs.declared.label.Label.TheVariants as labels
use Rattle.spec_bitcoin.specs.Keys.{key_of, label_text, pay_to}
use Rattle.spec_bitcoin.specs.Meaning.{script_meaning}
use Rattle.spec_calculus.specs.Configuration.{Configuration}
use Rattle.spec_compiler.specs.Instance.{Instance, branch_path, branch_label, branch_keys, deposit_key, people, position_script}
use Rattle.spec_compiler.specs.Transactions.{Standing, tx_of, initial_unsigned, root_standing, party_script}
use Rattle.spec_compiler.specs.ByPath.{position_at}
use Rattle.spec_compiler.specs.Statements.{IsCompiled}
use Rattle.spec_run.specs.Setup.{Setup, is_declared, people_of}
use Rattle.spec_run.specs.World.{World}
use Rattle.spec_run.specs.Owners.{paid_to}
use Rattle.spec_run.specs.Compiled.{compiled_instance}
use Rattle.spec_run.specs.Conditions.{HashesBytes}
use Rattle.spec_run.specs.Giving.{given_output, gift}
use Rattle.theory_bitcoin.specs.Apart.{bare}
use Rattle.theory_calculus.proofs.Names.{bytes-true, bytes_refl}
use Rattle.theory_script.proofs.Scripts.Opened.{opens_exactly}
use Rattle.theory_script.proofs.Scripts.Deposits.{deposit_meaning}
use Rattle.theory_script.proofs.Listing.Stands.{position_stands}
use Rattle.theory_world.specs.KeptApart.{NoCollision}
use Rattle.theory_world.proofs.Later.{compiled_is}
use Rattle.theory_run.specs.KeptBook.{KeptBook}
use Rattle.theory_run.proofs.Accepted.Spending.{Checked, script_heard, each_valid}
use Rattle.theory_run.proofs.Facts.Labelled.{same_label, deposit_label, heard_label}
use Rattle.theory_run.proofs.Facts.Opening.{among_map}

-- a oracle that takes any signature for this key
abbrev only : List ℕ → List ℕ → List ℕ → Bool
only key signature other = bytes_eq other key

module _ (s : Setup) (size : HashesBytes s.hash) (few_contracts : length s.contracts ≤ 16) (g : Configuration) (w : World)
    (kept : KeptBook s g w) (check : Checked s w) (clear : NoCollision s.hash w.hashed)
    (k : ℕ) (st : Instance) (compiled : compiled_instance s w k ≡ Some st) where
  -- a deposit's script is opened by one signature for its key, a position's asks a participant's key of a branch
  pub no_deposit_script : (q : List PathStep) (here : Standing) (choice : Contract) → position_at s.hash st q ≡ Some (here, choice)
      → (a : List ℕ) → is_declared s a ≡ true → here.output.script ≡ party_script s.hash a → ⊥
  no_deposit_script q here choice stand a declared same =
      let key = deposit_key s.hash a in
      let valid = only key in
      let items : List (List ℕ) = [] ∷ [] in
      let len : length key ≡ 33 = (let l = size.size (label_text (labels.Deposit a)) in omega (arith, l)) in
      let runs : script_meaning s.hash valid (party_script s.hash a) items ≡ true =
      deposit_meaning s.hash valid key items len refl ∙ and_from _ _ (bytes_refl key) refl in
      let stands = position_stands s.hash st q here choice stand in
      let opens : script_meaning s.hash valid (position_script s.hash st q choice) items ≡ true =
      ap (λ y. script_meaning s.hash valid y items) (sym stands.script ∙ same) ∙ runs in
      let comp : IsCompiled st q choice = record {
        checked = check.checked k st compiled;
        committed = check.committed k st compiled;
        is_position = stands.branches;
      } in
      let op = (opens_exactly s.hash st q valid choice items size.size comp refl).true_opens opens in
      let c = compiled_is s w k st compiled in
      let number : st.contract ≡ k = ap (λ (y : Instance). y.contract) c.is in
      let adv = kept.adverts k c.advertised in
      let part : is_among adv.fair.0 (people st) ≡ true =
      subst (λ p. is_among adv.fair.0 p ≡ true) (ap people_of c.there ∙ ap (λ (y : Instance). people y) (sym c.is)) adv.fair.1 in
      let branch_key = key_of s.hash (branch_label st.contract (branch_path q op.i) adv.fair.0) in
      let r = each_valid valid op.signatures (branch_keys s.hash st (branch_path q op.i)) branch_key op.signed
      (among_map (λ party. key_of s.hash (branch_label st.contract (branch_path q op.i) party)) adv.fair.0 (people st) part) in
      let one : key_of s.hash (branch_label k (q ++ To op.i ∷ []) adv.fair.0) ≡ key =
      subst (λ m. key_of s.hash (branch_label m (q ++ To op.i ∷ []) adv.fair.0) ≡ key) number (bytes-true branch_key key r.1) in
      let l = same_label s size few_contracts g w kept check w.hashed clear (λ t h. h) (branch_label k (q ++ To op.i ∷ []) adv.fair.0) (labels.Deposit a)
      (heard_label s size few_contracts g w kept check w.hashed clear (λ t h. h) k st q here choice op.i op.b adv.fair.0 compiled stand op.is_branch part)
      (deposit_label s size few_contracts g w kept check w.hashed clear (λ t h. h) a declared) one in
      cc

  -- what pays to the root pays to no party
  root_unpaid : (a : List ℕ) → is_declared s a ≡ true → paid_to s a ≡ pay_to (s.hash (root_standing s.hash st).output.script) → ⊥
  root_unpaid a declared e =
      let h : s.hash (party_script s.hash a) ≡ s.hash (root_standing s.hash st).output.script = cc in
      let root : position_at s.hash st [] ≡ Some (root_standing s.hash st, st.advert.root) = refl in
      let same = clear.one (party_script s.hash a) (root_standing s.hash st).output.script (kept.programs a declared)
      (script_heard s.hash st w.hashed (kept.heard k st compiled) [] (root_standing s.hash st) st.advert.root root) h in
      no_deposit_script [] (root_standing s.hash st) st.advert.root root a declared (sym same)

  -- a gift to parties isn't the contract's initial transaction
  pub gift_starts_nothing : (party : List ℕ) (inputs : List ℕ) (outputs : List (List ℕ × ℕ)) → list_all (λ o. is_declared s (o.0)) outputs
      ≡ true → 1 ≤ length outputs → bare (gift s w party inputs outputs) ≡ bare (tx_of (initial_unsigned s.hash st)) → ⊥
  gift_starts_nothing party inputs [] all some e = absurd (omega (arith, some))
  gift_starts_nothing party inputs (o ∷ os) all some e =
      let outs : given_output s o ∷ map (given_output s) os ≡ (tx_of (initial_unsigned s.hash st)).outputs = ap (λ (x : Tx). x.outputs) e in
      let first : (given_output s o).script ≡ pay_to (s.hash (root_standing s.hash st).output.script) = cc in
      root_unpaid (o.0) (and_parts (is_declared s (o.0)) (list_all (λ x. is_declared s (x.0)) os) all).0 first
