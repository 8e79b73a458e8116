-- A deal as values of JSON. Amounts are in satoshi, sizes in virtual bytes; a txid is shown as wallets show it.
use Rattle.std.specs.Prelude.{ℕ, ◌+◌, ◌*◌, ◌/◌, List, [], ◌∷◌, map, reverse, Option, Some, None, is_some, codes}
use Rattle.std.specs.Option.{option_map}
use Rattle.spec_data.specs.Digits.{hex_text}
use Rattle.spec_terms.specs.Advert.{Advert}
use Rattle.spec_terms.specs.Precondition.{Holding, deposits}
use Rattle.spec_terms.specs.declared.path.PathStep.{PathStep}
use Rattle.spec_bitcoin.specs.declared.label.Label.{Label}
use Rattle.spec_bitcoin.specs.declared.tx.TxOut.{TxOut}
use Rattle.spec_bitcoin.specs.Digests.{txid}
use Rattle.spec_bitcoin.specs.Keys.{path_text}
use Rattle.spec_compiler.specs.Keyed.Keys.{Keys}
use Rattle.spec_compiler.specs.Keyed.Instance.{Instance}
use Rattle.spec_compiler.specs.Keyed.Transactions.{deposit, payee_script, tx_of}
use Rattle.spec_compiler.specs.declared.unsigned.Spent.{Spent}
use Rattle.spec_address.specs.Address.{address}
use Rattle.spec_tool.specs.declared.which.Which.{Which}
use Rattle.spec_tool.specs.declared.which.Which.TheVariants as names
use Rattle.spec_tool.specs.Keyed.Listed.{Listed, listed, which_text}
use Rattle.spec_tool.specs.Weights.{position_of}
use Rattle.spec_deal.specs.declared.transaction.Wallet.{Wallet}
use Rattle.spec_deal.specs.DealText.{verb_text}
use Rattle.spec_deal.specs.Finished.{label_party}
use Rattle.spec_deal.specs.Slots.{verb_of}
use Rattle.spec_deal.specs.Used.{paid_parties}
use Rattle.spec_deal.specs.WarnText.{fee_of, full_size}
use Rattle.spec_deal.specs.Wallets.{input_deposit, input_wallet, wallet_of, spent_output, signer_text, signer_key}
use Rattle.serde_json.specs.Data.{Data, null, boolean}
use Rattle.spec_json.specs.Values.{text_value, number_value, list_value}
use Rattle.spec_show.specs.Objects.{object_of, text_or_null}
use Rattle.spec_show.specs.Made.{Made, goes_on, paid, made_by, revealed_by}

-- ---- outputs and where they lie

-- an output script's address, where a network is named and the script has one
abbrev pub address_data : Option (List ℕ) → List ℕ → Data
address_data None script = null
address_data (Some hrp) script = text_or_null (address hrp script)

-- a txid is shown with its bytes reversed
abbrev pub txid_data : List ℕ → Data
txid_data id = text_value (hex_text (reverse id))

-- ---- deposits and payouts

abbrev pub deposit_with : (List ℕ → List ℕ) → Option (List ℕ) → Option Wallet → List ℕ × Holding → Spent → Data
deposit_with hash network wallet d spent = object_of (
    (codes "address", address_data network (spent_output hash wallet spent).script)
    ∷ (codes "name", text_value (d.0))
    ∷ (codes "party", text_value (d.1).owner)
    ∷ (codes "script", text_value (hex_text (spent_output hash wallet spent).script))
    ∷ (codes "txid", txid_data spent.outpoint.txid)
    ∷ (codes "value", number_value spent.value)
    ∷ (codes "vout", number_value spent.outpoint.vout)
    ∷ (codes "wallet", boolean (is_some wallet))
    ∷ [])

-- an output that has to be there, and whether a wallet brings it
abbrev pub deposit_data : (List ℕ → List ℕ) → Option (List ℕ) → Keys → Instance → List ℕ × Holding → Data
deposit_data hash network keys s d = deposit_with hash network (wallet_of keys (d.0)) d (deposit hash keys s (d.0) (d.1))

-- where a party is paid
abbrev pub payee_data : (List ℕ → List ℕ) → Option (List ℕ) → Keys → List ℕ → Data
payee_data hash network keys party = object_of (
    (codes "address", address_data network (payee_script hash keys party))
    ∷ (codes "party", text_value party)
    ∷ (codes "script", text_value (hex_text (payee_script hash keys party)))
    ∷ [])

-- ---- inputs

-- the key that signs; a wallet doesn't say its own
abbrev pub signing_key : (List ℕ → List ℕ) → Keys → Option Wallet → Label → Data
signing_key hash keys None label = text_value (hex_text (signer_key hash keys None label))
signing_key hash keys (Some w) label = null

-- who signs, by which key, and when: before the beginning, for it, or once that party wants the branch taken
abbrev pub signer_data : (List ℕ → List ℕ) → Keys → Advert → Which → Option Wallet → Label → Data
signer_data hash keys advert which wallet label = object_of (
    (codes "key", signing_key hash keys wallet label)
    ∷ (codes "label", text_value (signer_text wallet label))
    ∷ (codes "party", text_value (label_party label))
    ∷ (codes "when", text_value (verb_text (verb_of advert which label)))
    ∷ [])

-- the position whose output the first input of a branch spends; a deposit lies at none
abbrev pub spent_position : Which → Option (List ℕ) → Data
spent_position names.Init deposit = null
spent_position (names.At path) None = text_value (path_text (position_of path))
spent_position (names.At path) (Some name) = null

-- input k, which spends this and has these signers
abbrev pub input_data : (List ℕ → List ℕ) → Keys → Advert → Which → ℕ → Spent → List Label → Data
input_data hash keys advert which k spent labels = object_of (
    (codes "deposit", text_or_null (input_deposit advert which k))
    ∷ (codes "position", spent_position which (input_deposit advert which k))
    ∷ (codes "signers", list_value (map (signer_data hash keys advert which (input_wallet keys advert which k)) labels))
    ∷ (codes "txid", txid_data spent.outpoint.txid)
    ∷ (codes "value", number_value spent.value)
    ∷ (codes "vout", number_value spent.outpoint.vout)
    ∷ [])

-- those from number k on
abbrev pub inputs_data : (List ℕ → List ℕ) → Keys → Advert → Which → ℕ → List Spent → List (List Label) → List Data
inputs_data hash keys advert which k [] signers = []
inputs_data hash keys advert which k (spent ∷ spends) [] =
    input_data hash keys advert which k spent [] ∷ inputs_data hash keys advert which (k + 1) spends []
inputs_data hash keys advert which k (spent ∷ spends) (labels ∷ signers) =
    input_data hash keys advert which k spent labels ∷ inputs_data hash keys advert which (k + 1) spends signers

-- ---- outputs

abbrev pub made_party : Made → Data
made_party (goes_on position) = null
made_party (paid party) = text_value party

abbrev pub made_position : Made → Data
made_position (goes_on position) = text_value (path_text position)
made_position (paid party) = null

-- an output: whose payout it is, or at which position the contract goes on
abbrev pub output_data : Option (List ℕ) → TxOut → Made → Data
output_data network output made = object_of (
    (codes "address", address_data network output.script)
    ∷ (codes "party", made_party made)
    ∷ (codes "position", made_position made)
    ∷ (codes "script", text_value (hex_text output.script))
    ∷ (codes "value", number_value output.value)
    ∷ [])

abbrev pub outputs_data : Option (List ℕ) → List TxOut → List Made → List Data
outputs_data network [] made = []
outputs_data network (output ∷ outputs) [] = []
outputs_data network (output ∷ outputs) (made ∷ more) = output_data network output made ∷ outputs_data network outputs more

-- ---- transactions

-- satoshi for 1,000 virtual bytes, at the full size of its witnesses
abbrev pub fee_rate : Keys → Advert → Listed → ℕ
fee_rate keys advert l = (1000 * fee_of l) / full_size keys advert l

abbrev pub listed_data : (List ℕ → List ℕ) → Option (List ℕ) → Keys → Advert → Listed → Data
listed_data hash network keys advert l = object_of (
    (codes "fee", number_value (fee_of l))
    ∷ (codes "fee_rate", number_value (fee_rate keys advert l))
    ∷ (codes "inputs", list_value (inputs_data hash keys advert l.which 0 l.pending.spends l.signers))
    ∷ (codes "lock", number_value l.pending.lock)
    ∷ (codes "name", text_value (which_text l.which))
    ∷ (codes "outputs", list_value (outputs_data network l.pending.outputs (made_by advert l.which)))
    ∷ (codes "secrets", list_value (map text_value (revealed_by advert l.which)))
    ∷ (codes "size", number_value (full_size keys advert l))
    ∷ (codes "txid", txid_data (txid hash (tx_of l.pending)))
    ∷ [])

-- ---- the deal

abbrev pub deal_data : (List ℕ → List ℕ) → Option (List ℕ) → Keys → Instance → Data
deal_data hash network keys s = object_of (
    (codes "deposits", list_value (map (deposit_data hash network keys s) (deposits s.advert.pre)))
    ∷ (codes "network", text_or_null network)
    ∷ (codes "payouts", list_value (map (payee_data hash network keys) (paid_parties s.advert)))
    ∷ (codes "transactions", list_value (map (listed_data hash network keys s.advert) (listed hash keys s)))
    ∷ [])
