-- The witnesses that the code fills in are those of the definition.
use Rattle.std.proofs.Common.{◌≡◌, ℕ, ◌+◌, List, [], ◌∷◌, ◌++◌, length, map, Option, Some, None}
use Rattle.std.proofs.Common.{refl, sym, ap, subst, ◌∙◌, arith, append_assoc}
use Rattle.std.specs.Prelude.{reverse}
use Rattle.std.specs.List.{flat_map}
use Rattle.std.specs.Option.{option_map, option_map_or, option_and_then}
use Rattle.spec_terms.specs.Term as term
use Rattle.spec_terms.specs.Term.{Contract, branches}
use Rattle.spec_terms.specs.Advert.{Advert}
use Rattle.spec_terms.specs.Core.{core, reveals_of, puts_of}
use Rattle.spec_terms.specs.Paths as paths
use Rattle.spec_terms.specs.Paths.{Subterm, subterm_from, contract_under}
use Rattle.spec_terms.specs.declared.path.PathStep.{PathStep}
use Rattle.spec_terms.specs.declared.path.PathStep.TheVariants.{Branch as To}
use Rattle.spec_bitcoin.specs.declared.label.Label.{Label}
use Rattle.spec_compiler.specs.Keyed.Keys.{Keys}
use Rattle.spec_compiler.specs.Keyed.Instance.{Instance, branch_path}
use Rattle.spec_compiler.specs.Keyed.Transactions.{Standing, put_deposits, branch_unsigned, tx_of}
use Rattle.spec_compiler.specs.Keyed.ByPath as by_path
use Rattle.spec_compiler.specs.Keyed.ByPath.{PathEnd, end_at, as_unsigned}
use Rattle.spec_compiler.specs.Witness.{selectors, witness_of}
use Rattle.spec_compiler.specs.declared.unsigned.Spent.{Spent}
use Rattle.spec_run.specs.Firing.{with_witnesses}
use Rattle.spec_tool.specs.declared.which.Which.{Which}
use Rattle.spec_tool.specs.declared.which.Which.TheVariants as names
use Rattle.spec_tool.specs.Keyed.Listed.{Listed, path_listed, listed_at}
use Rattle.spec_tool.specs.Weights.{last_branch, position_of}
use Rattle.theory_psbt.proofs.Signers.{signers_for_each}
use Rattle.theory_script.proofs.Keyed.Stands.{some_same, IfAgrees, agrees_at}
use Rattle.theory_deal.proofs.Branches.{Found, branch_found}
use Rattle.spec_deal.specs.declared.entry.Shown.{Shown}
use Rattle.spec_deal.specs.declared.signed.Signed.{Signed}
use Rattle.spec_deal.specs.declared.transaction.Transaction.{Transaction}
use Rattle.spec_deal.specs.declared.transaction.Wallet.{Wallet}
use Rattle.spec_deal.specs.Finished.{items_or_none, strings_of, input_signatures, deposit_witness, deposit_witnesses, branch_witness, path_witnesses, witnesses, finished}
use Rattle.spec_deal.specs.Given.{witness_for}
use Rattle.spec_deal.specs.Slots.{input_slots}
use Rattle.spec_deal.specs.Transactions.{signer, input, inputs, transaction}
use Rattle.spec_deal.specs.Wallets.{input_wallet, signer_key}
use Rattle.deal_finish.specs.Filled.{signatures_by, signature_at, witness_at, wallet_by, deposit_by_wallet, deposits_by, items_of, choice_items, path_items, path_by, by_which, witnesses_by, finished_by}

-- ---- the end of a path

last_is : (q : List PathStep) (i : ℕ) → last_branch (q ++ To i ∷ []) ≡ i
last_is [] i = refl
last_is (x ∷ []) i = refl
last_is (x ∷ (y ∷ q)) i = last_is (y ∷ q) i

position_is : (q : List PathStep) (i : ℕ) → position_of (q ++ To i ∷ []) ≡ q
position_is [] i = refl
position_is (x ∷ []) i = refl
position_is (x ∷ (y ∷ q)) i = ap (λ ys. x ∷ ys) (position_is (y ∷ q) i)

-- signatures before what stands behind them
behind_signatures : (signatures secrets : List (List ℕ)) (i n : ℕ) (script : List ℕ)
    → witness_of signatures secrets i n script ≡ reverse signatures ++ witness_of [] secrets i n script
behind_signatures signatures secrets i n script =
    append_assoc (reverse signatures) (reverse secrets ++ reverse (selectors i n)) (script ∷ [])

module _ (hash : List ℕ → List ℕ) (keys : Keys) (s : Instance) (given : List Signed) (strings : List Shown) where
  module _ (l : Listed) where
    abbrev bytes : List ℕ
    bytes = (transaction hash keys s.advert l).bytes

    -- ---- signatures and deposits

    signatures_are : (k : ℕ) (spent : Spent) (labels : List Label)
        → input_signatures hash keys s given l k spent labels ≡ signatures_by given bytes k (input hash keys s.advert l k spent labels)
    signatures_are k spent [] = refl
    signatures_are k spent (label ∷ labels) =
        ap (λ more. signature_at given bytes k (signer_key hash keys (input_wallet keys s.advert l.which k) label) ∷ more)
        (signatures_are k spent labels)

    wallets_are : (k : ℕ) (spent : Spent) (labels : List Label)
        → flat_map (λ slot. items_or_none (witness_for hash keys given slot)) (input_slots keys s.advert l k spent labels)
        ≡ wallet_by given bytes k (map (signer hash keys s.advert l.which (input_wallet keys s.advert l.which k)) labels)
    wallets_are k spent [] = refl
    wallets_are k spent (label ∷ labels) =
        ap (λ more. witness_at given bytes k (signer_key hash keys (input_wallet keys s.advert l.which k) label) ++ more)
        (wallets_are k spent labels)

    by_wallet : (k : ℕ) (spent : Spent) (labels : List Label) (w : Option Wallet) → deposit_witness hash keys s given l k spent labels w
        ≡ deposit_by_wallet given bytes k (input hash keys s.advert l k spent labels) w
    by_wallet k spent labels None = ap (λ (signatures : List (List ℕ)). signatures ++ spent.script ∷ []) (signatures_are k spent labels)
    by_wallet k spent labels (Some w) = wallets_are k spent labels

    deposits_are : (k : ℕ) (spends : List Spent) (signers : List (List Label)) → length signers ≡ length spends
        → deposit_witnesses hash keys s given l k spends signers ≡ deposits_by given bytes k (inputs hash keys s.advert l k spends signers)
    deposits_are k [] signers e = refl
    deposits_are k (spent ∷ spends) [] e = absurd (omega (arith, e))
    deposits_are k (spent ∷ spends) (labels ∷ signers) e =
        let fewer : length signers ≡ length spends = omega (arith, e) in
        λ j. by_wallet k spent labels (input_wallet keys s.advert l.which k) j ∷ deposits_are (k + 1) spends signers fewer j

  -- ---- paths

  module _ (path : List PathStep) (here : Standing) (i : ℕ) (b : term.Guarded)
      (ends : end_at hash keys s path ≡ Some (by_path.at_branch here i b)) (same : branch_path here.position i ≡ path) where
    place : Found hash keys s here i b
    place = branch_found hash keys s path here i b ends

    abbrev made : Listed
    made = path_listed s path (branch_unsigned hash keys s here i b)

    items_are : (script : List ℕ) → path_items s.advert strings path script
        ≡ witness_of [] (strings_of strings (reveals_of (core b))) i (length (branches place.choice)) script
    items_are script =
        ap (λ (p : List PathStep). path_items s.advert strings p script) (sym same)
        ∙ (λ j. choice_items strings (last_is here.position i j) script (contract_under s.advert.root (position_is here.position i j)))
        ∙ ap (choice_items strings i script) place.stands.branches
        ∙ ap (items_of strings i (length (branches place.choice)) script) place.is_branch

    witness_is : (signatures : List (List ℕ))
        → branch_witness s strings signatures (end_at hash keys s path)
        ≡ reverse signatures ++ path_items s.advert strings path here.output.script
    witness_is signatures =
        ap (branch_witness s strings signatures) ends
        ∙ ap
        (λ (o : Option Contract).
        witness_of signatures (strings_of strings (reveals_of (core b))) i (option_map_or (λ c. length (branches c)) o 0)
        here.output.script)
        place.stands.branches
        ∙ behind_signatures signatures (strings_of strings (reveals_of (core b))) i (length (branches place.choice)) here.output.script
        ∙ ap (λ items. reverse signatures ++ items) (sym (items_are here.output.script))

    by_signers : (signers : List (List Label)) → length signers ≡ length made.pending.spends
        → path_witnesses hash keys s given strings path made made.pending.spends signers
        ≡ path_by s.advert given strings (bytes made) path (inputs hash keys s.advert made 0 made.pending.spends signers)
    by_signers [] e = absurd (omega (arith, e))
    by_signers (labels ∷ others) e =
        let puts = put_deposits hash keys s (puts_of (core b)) in
        let fewer : length others ≡ length puts = omega (arith, e) in
        λ j. (witness_is (input_signatures hash keys s given made 0 here.output labels)
        ∙ ap (λ sigs. reverse sigs ++ path_items s.advert strings path here.output.script) (signatures_are made 0 here.output labels)) j
        ∷ deposits_are made 1 puts others fewer j

    path_are : listed_at hash keys s (names.At path) ≡ Some made
        → witnesses hash keys s given strings made (names.At path) ≡ witnesses_by s.advert given strings (transaction hash keys s.advert made)
    path_are e = by_signers made.signers (signers_for_each hash keys s (names.At path) made e)

  -- ---- all transactions

  abbrev AreFilled : Listed → Type 0
  AreFilled l = witnesses hash keys s given strings l l.which ≡ witnesses_by s.advert given strings (transaction hash keys s.advert l)

  by_ends : (path : List PathStep) (o : Option PathEnd) (q : Option Subterm) → end_at hash keys s path ≡ o → IfAgrees hash keys s path o q
      → (l : Listed) → option_map (path_listed s path) (option_and_then (as_unsigned hash keys s) o) ≡ Some l → AreFilled l
  by_ends path None q ends agrees l e = cc
  by_ends path (Some (by_path.at_position here choice)) q ends agrees l e = cc
  by_ends path (Some (by_path.at_branch here i d)) None ends agrees l e = absurd agrees
  by_ends path (Some (by_path.at_branch here i d)) (Some (paths.position c)) ends agrees l e = absurd agrees
  by_ends path (Some (by_path.at_branch here i d)) (Some (paths.at_branch b)) ends agrees l e =
      let there : listed_at hash keys s (names.At path) ≡ Some (path_listed s path (branch_unsigned hash keys s here i d)) =
      ap (λ (o : Option PathEnd). option_map (path_listed s path) (option_and_then (as_unsigned hash keys s) o)) ends in
      subst AreFilled (some_same e) (path_are path here i d ends agrees.0 there)

  filled_at : (which : Which) (l : Listed) → l.which ≡ which → listed_at hash keys s which ≡ Some l → AreFilled l
  filled_at names.Init l is e =
      let many = signers_for_each hash keys s names.Init l e in
      ap (witnesses hash keys s given strings l) is
      ∙ deposits_are l 0 l.pending.spends l.signers many
      ∙ sym (ap (by_which s.advert given strings (bytes l) (inputs hash keys s.advert l 0 l.pending.spends l.signers)) is)
  filled_at (names.At path) l is e =
      by_ends path (end_at hash keys s path) (subterm_from (paths.position s.advert.root) path) refl (agrees_at hash keys s path) l e

  pub finished_is : (advert : Advert) (l : Listed) (t : Transaction) → s.advert ≡ advert → t ≡ transaction hash keys s.advert l
      → listed_at hash keys s l.which ≡ Some l → finished_by advert given strings t ≡ finished hash keys s given strings l
  finished_is advert l t same is e =
      (λ j. finished_by (sym same j) given strings (is j))
      ∙ ap (with_witnesses (tx_of l.pending)) (sym (filled_at l.which l refl e))
