-- What is given to signers is the transaction as it is defined.
use Rattle.std.proofs.Common.{◌≡◌, ℕ, ◌+◌, List, [], ◌∷◌, ◌++◌, length, map, true, refl, ap, ◌∙◌}
use Rattle.std.specs.Prelude.{◌&&◌, ◌==◌}
use Rattle.std.specs.List.{list_all, flat_map}
use Rattle.std.proofs.lemmas.Bool.{and_parts, and_from}
use Rattle.std.proofs.lemmas.List.{length-map}
use Rattle.spec_terms.specs.Advert.{Advert}
use Rattle.spec_bitcoin.specs.declared.label.Label.{Label}
use Rattle.spec_compiler.specs.Keyed.Instance.{Instance}
use Rattle.spec_compiler.specs.Keyed.Keys.{Keys}
use Rattle.spec_compiler.specs.Keyed.Transactions.{tx_of}
use Rattle.spec_compiler.specs.declared.unsigned.Spent.{Spent}
use Rattle.spec_tool.specs.declared.psbt.PsbtInput.{PsbtInput}
use Rattle.spec_tool.specs.Keyed.Listed.{Listed, listed}
use Rattle.spec_tool.specs.Psbt.{is_psbt, is_unsigned, are_ascending}
use Rattle.spec_tool.specs.PsbtText.{psbt_line}
use Rattle.spec_terms.specs.Precondition.{names_of}
use Rattle.spec_deal.specs.declared.transaction.Input.{Input}
use Rattle.spec_deal.specs.declared.transaction.Transaction.{Transaction}
use Rattle.spec_deal.specs.DealText.{unsigned_input, unsigned_inputs, unsigned_psbt, psbts_text}
use Rattle.spec_deal.specs.Transactions.{inputs, transaction, transactions}
use Rattle.spec_deal.specs.Wallets.{input_wallet}
use Rattle.deal_compile.specs.Signable.{is_signable}
use Rattle.deal_plan.specs.PsbtParts.{input_for, psbt_for}

module _ (hash : List ℕ → List ℕ) (keys : Keys) (advert : Advert) (l : Listed) where
  inputs_told : (k : ℕ) (spends : List Spent) (signers : List (List Label)) → map input_for (inputs hash keys advert l k spends signers)
      ≡ unsigned_inputs hash keys advert l k spends
  inputs_told k [] signers = refl
  inputs_told k (spent ∷ spends) [] =
      ap (λ rest. unsigned_input hash (input_wallet keys advert l.which k) spent ∷ rest) (inputs_told (k + 1) spends [])
  inputs_told k (spent ∷ spends) (labels ∷ signers) =
      ap (λ rest. unsigned_input hash (input_wallet keys advert l.which k) spent ∷ rest) (inputs_told (k + 1) spends signers)

  pub psbt_told : psbt_for (transaction hash keys advert l) ≡ unsigned_psbt hash keys advert l
  psbt_told = ap (λ is. record { tx = tx_of l.pending; inputs = is }) (inputs_told 0 l.pending.spends l.signers)

lines_told : (hash : List ℕ → List ℕ) (keys : Keys) (advert : Advert) (ls : List Listed)
    → flat_map (λ t. psbt_line (psbt_for t)) (map (transaction hash keys advert) ls) ≡ flat_map (λ l. psbt_line (unsigned_psbt hash keys advert l)) ls
lines_told hash keys advert [] = refl
lines_told hash keys advert (l ∷ ls) = λ j. psbt_line (psbt_told hash keys advert l j) ++ lines_told hash keys advert ls j

pub all_told : (hash : List ℕ → List ℕ) (keys : Keys) (s : Instance) (ts : List Transaction) → ts ≡ transactions hash keys s
    → flat_map (λ t. psbt_line (psbt_for t)) ts ≡ psbts_text hash keys s
all_told hash keys s ts made = ap (flat_map (λ t. psbt_line (psbt_for t))) made ∙ lines_told hash keys s.advert (listed hash keys s)

-- ---- what is given to signers is a partially signed transaction

no_signature : (is : List Input) → list_all (λ (input : PsbtInput). are_ascending (names_of input.partial)) (map input_for is) ≡ true
no_signature [] = refl
no_signature (i ∷ is) = no_signature is

pub signable_is : (t : Transaction) → is_signable t ≡ true → is_psbt (psbt_for t) ≡ true
signable_is t h =
    let p = and_parts (is_unsigned t.tx) (length t.inputs == length t.tx.inputs) h in
    let n : (length (map input_for t.inputs) == length t.tx.inputs) ≡ true = ap (λ n. n == length t.tx.inputs) (length-map t.inputs input_for) ∙ p.1 in
    and_from (is_unsigned t.tx && (length (map input_for t.inputs) == length t.tx.inputs)) _
    (and_from (is_unsigned t.tx) (length (map input_for t.inputs) == length t.tx.inputs) p.0 n) (no_signature t.inputs)
