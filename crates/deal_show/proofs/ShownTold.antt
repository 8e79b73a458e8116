-- What is shown, by what is known of the transactions, is what the definition says.
use Rattle.std.proofs.Common.{◌≡◌, ℕ, zero, suc, ◌+◌, List, [], ◌∷◌, map, Option, Some, None, refl, ap, ◌∙◌}
use Rattle.std.specs.Prelude.{is_some, codes}
use Rattle.std.specs.Option.{option_map, option_map_or}
use Rattle.serde_json.specs.Data.{boolean}
use Rattle.spec_data.specs.Lists.{look_up}
use Rattle.spec_terms.specs.Advert.{Advert}
use Rattle.spec_terms.specs.Precondition.{Holding, deposits}
use Rattle.spec_bitcoin.specs.declared.label.Label.{Label}
use Rattle.spec_bitcoin.specs.declared.tx.OutPoint.{OutPoint}
use Rattle.spec_bitcoin.specs.Keys.{pay_to}
use Rattle.spec_bitcoin.specs.Digests.{txid}
use Rattle.spec_compiler.specs.Keyed.Keys.{Keys, own_script}
use Rattle.spec_compiler.specs.Keyed.Instance.{Instance}
use Rattle.spec_compiler.specs.Keyed.OwnScripts.{code_of}
use Rattle.spec_compiler.specs.Keyed.Transactions.{outpoint_or_none, party_script, tx_of}
use Rattle.spec_compiler.specs.declared.unsigned.Spent.{Spent}
use Rattle.spec_tool.specs.declared.which.Which.{Which}
use Rattle.spec_tool.specs.declared.which.Which.TheVariants as names
use Rattle.spec_tool.specs.Keyed.Listed.{Listed, listed, which_text}
use Rattle.spec_deal.specs.declared.transaction.Transaction.{Transaction}
use Rattle.spec_deal.specs.declared.transaction.Wallet.{Wallet}
use Rattle.spec_deal.specs.Transactions.{signer, input, inputs, transaction, transactions}
use Rattle.spec_deal.specs.Used.{paid_parties}
use Rattle.spec_deal.specs.Wallets.{input_deposit, input_wallet}
use Rattle.deal_warn.proofs.WarnTold.{fee_told, size_told}
use Rattle.deal_compile.specs.Parts as parts
use Rattle.spec_json.specs.Values.{text_value, number_value, list_value}
use Rattle.spec_show.specs.Made.{made_by, revealed_by}
use Rattle.spec_show.specs.Objects.{object_of, text_or_null}
use Rattle.spec_show.specs.ShownDeal.{txid_data, deposit_with, deposit_data, payee_data, signer_data, spent_position, input_data, inputs_data, outputs_data, listed_data, deal_data}
use Rattle.deal_show.specs.Showing.{placed_data, deposit_by, spent_deposits, signer_by, input_by, inputs_by, rate_of, transaction_by, deal_by}

-- a deposit that input k spends, by the names of those that the transaction spends
deposit_spent : (advert : Advert) (which : Which) (k : ℕ) → parts.deposit_by which (spent_deposits advert which) k ≡ input_deposit advert which k
deposit_spent advert names.Init k = refl
deposit_spent advert (names.At path) zero = refl
deposit_spent advert (names.At path) (suc k) = refl

module _ (hash : List ℕ → List ℕ) (network : Option (List ℕ)) (keys : Keys) where
  -- ---- deposits

  placed : (d : List ℕ × Holding) (place : OutPoint) (own : Option (List ℕ))
      → placed_data network d place (option_map_or (λ own. own) own (pay_to (hash (party_script hash keys (d.1).owner)))) (boolean (is_some own))
      ≡ deposit_with hash network (option_map (λ script. record { deposit = d.0; script = script }) own) d
      (record { outpoint = place; script = option_map_or code_of own (party_script hash keys (d.1).owner); value = (d.1).value })
  placed d place None = refl
  placed d place (Some script) = refl

  deposits_told : (s : Instance) (ds : List (List ℕ × Holding))
      → map (deposit_by hash network keys s.bound) ds ≡ map (deposit_data hash network keys s) ds
  unfolding deposit_by
  deposits_told s [] = refl
  deposits_told s (d ∷ ds) =
      λ j. placed d (outpoint_or_none (look_up (d.0) s.bound)) (own_script keys (d.0)) j ∷ deposits_told s ds j

  -- ---- inputs

  module _ (advert : Advert) (l : Listed) where
    signer_told : (wallet : Option Wallet) (label : Label)
        → signer_by wallet (signer hash keys advert l.which wallet label) ≡ signer_data hash keys advert l.which wallet label
    signer_told None label = refl
    signer_told (Some w) label = refl

    signers_told : (wallet : Option Wallet) (labels : List Label)
        → map (signer_by wallet) (map (signer hash keys advert l.which wallet) labels)
        ≡ map (signer_data hash keys advert l.which wallet) labels
    signers_told wallet [] = refl
    signers_told wallet (label ∷ labels) = λ j. signer_told wallet label j ∷ signers_told wallet labels j

    input_told : (k : ℕ) (spent : Spent) (labels : List Label)
        → input_by l.which (parts.deposit_by l.which (spent_deposits advert l.which) k) (input hash keys advert l k spent labels)
        ≡ input_data hash keys advert l.which k spent labels
    input_told k spent labels =
        λ j. object_of (
        (codes "deposit", text_or_null (deposit_spent advert l.which k j))
        ∷ (codes "position", spent_position l.which (deposit_spent advert l.which k j))
        ∷ (codes "signers", list_value (signers_told (input_wallet keys advert l.which k) labels j))
        ∷ (codes "txid", txid_data spent.outpoint.txid)
        ∷ (codes "value", number_value spent.value)
        ∷ (codes "vout", number_value spent.outpoint.vout)
        ∷ [])

    inputs_told : (k : ℕ) (spends : List Spent) (signers : List (List Label))
        → inputs_by l.which (spent_deposits advert l.which) k (inputs hash keys advert l k spends signers)
        ≡ inputs_data hash keys advert l.which k spends signers
    inputs_told k [] signers = refl
    inputs_told k (spent ∷ spends) [] = λ j. input_told k spent [] j ∷ inputs_told (k + 1) spends [] j
    inputs_told k (spent ∷ spends) (labels ∷ signers) = λ j. input_told k spent labels j ∷ inputs_told (k + 1) spends signers j

    -- ---- transactions

    listed_told : transaction_by network advert (transaction hash keys advert l) ≡ listed_data hash network keys advert l
    unfolding transaction_by
    listed_told =
        let fee = fee_told hash keys advert l in
        let size = size_told hash keys advert l in
        λ j. object_of (
        (codes "fee", number_value (fee j))
        ∷ (codes "fee_rate", number_value (rate_of (fee j) (size j)))
        ∷ (codes "inputs", list_value (inputs_told 0 l.pending.spends l.signers j))
        ∷ (codes "lock", number_value l.pending.lock)
        ∷ (codes "name", text_value (which_text l.which))
        ∷ (codes "outputs", list_value (outputs_data network l.pending.outputs (made_by advert l.which)))
        ∷ (codes "secrets", list_value (map text_value (revealed_by advert l.which)))
        ∷ (codes "size", number_value (size j))
        ∷ (codes "txid", txid_data (txid hash (tx_of l.pending)))
        ∷ [])

  all_told : (advert : Advert) (ls : List Listed)
      → map (transaction_by network advert) (map (transaction hash keys advert) ls) ≡ map (listed_data hash network keys advert) ls
  all_told advert [] = refl
  all_told advert (l ∷ ls) = λ j. listed_told advert l j ∷ all_told advert ls j

  -- ---- the deal

  pub deal_told : (s : Instance) (ts : List Transaction) → ts ≡ transactions hash keys s
      → deal_by hash network keys s.bound s.advert ts ≡ deal_data hash network keys s
  deal_told s ts made =
      let shown = ap (map (transaction_by network s.advert)) made ∙ all_told s.advert (listed hash keys s) in
      λ j. object_of (
      (codes "deposits", list_value (deposits_told s (deposits s.advert.pre) j))
      ∷ (codes "network", text_or_null network)
      ∷ (codes "payouts", list_value (map (payee_data hash network keys) (paid_parties s.advert)))
      ∷ (codes "transactions", list_value (shown j))
      ∷ [])
