-- A deal as values of JSON, by what is known of its transactions.
use Rattle.std.specs.Prelude.{ℕ, ◌+◌, ◌*◌, ◌/◌, List, [], ◌∷◌, map, Option, Some, None, is_some, codes}
use Rattle.std.specs.Option.{option_map_or}
use Rattle.spec_data.specs.Digits.{hex_text}
use Rattle.spec_data.specs.Lists.{look_up}
use Rattle.spec_terms.specs.Advert.{Advert}
use Rattle.spec_terms.specs.Paths.{at}
use Rattle.spec_terms.specs.Precondition.{Holding, deposits, persistent, names_of}
use Rattle.spec_bitcoin.specs.declared.tx.OutPoint.{OutPoint}
use Rattle.spec_bitcoin.specs.Keys.{pay_to}
use Rattle.spec_compiler.specs.Keyed.Keys.{Keys, own_script}
use Rattle.spec_compiler.specs.Keyed.Transactions.{outpoint_or_none, party_script}
use Rattle.spec_tool.specs.declared.which.Which.{Which}
use Rattle.spec_tool.specs.declared.which.Which.TheVariants as names
use Rattle.spec_tool.specs.Keyed.Listed.{which_text}
use Rattle.spec_deal.specs.declared.transaction.Signer.{Signer}
use Rattle.spec_deal.specs.declared.transaction.Input.{Input}
use Rattle.spec_deal.specs.declared.transaction.Transaction.{Transaction}
use Rattle.spec_deal.specs.declared.transaction.Wallet.{Wallet}
use Rattle.spec_deal.specs.DealText.{verb_text}
use Rattle.spec_deal.specs.Finished.{label_party}
use Rattle.spec_deal.specs.Used.{paid_parties}
use Rattle.spec_deal.specs.Wallets.{puts_at, signer_text}
use Rattle.deal_compile.specs.Parts as parts
use Rattle.deal_warn.specs.Sized.{size_by}
use Rattle.deal_warn.specs.Warned.{fee_by}
use Rattle.serde_json.specs.Data.{Data, null, boolean}
use Rattle.spec_json.specs.Values.{text_value, number_value, list_value}
use Rattle.spec_show.specs.Made.{made_by, revealed_by}
use Rattle.spec_show.specs.Objects.{object_of, text_or_null}
use Rattle.spec_show.specs.ShownDeal.{address_data, txid_data, payee_data, spent_position, outputs_data}

-- ---- deposits

-- the output script of the deposit of this name: a wallet's, or that of its owner's key
abbrev pub deposit_output : (List ℕ → List ℕ) → Keys → List ℕ → List ℕ → List ℕ
deposit_output hash keys name owner =
    option_map_or (λ own. own) (own_script keys name) (pay_to (hash (party_script hash keys owner)))

-- a deposit at this place, whose output has this script; whether a wallet brings it
abbrev pub placed_data : Option (List ℕ) → List ℕ × Holding → OutPoint → List ℕ → Data → Data
placed_data network d place script wallet = object_of (
    (codes "address", address_data network script)
    ∷ (codes "name", text_value (d.0))
    ∷ (codes "party", text_value (d.1).owner)
    ∷ (codes "script", text_value (hex_text script))
    ∷ (codes "txid", txid_data place.txid)
    ∷ (codes "value", number_value (d.1).value)
    ∷ (codes "vout", number_value place.vout)
    ∷ (codes "wallet", wallet)
    ∷ [])

-- by the places that were given
unfoldable pub deposit_by : (List ℕ → List ℕ) → Option (List ℕ) → Keys → List (List ℕ × OutPoint) → List ℕ × Holding → Data
deposit_by hash network keys bound d =
    placed_data network d (outpoint_or_none (look_up (d.0) bound)) (deposit_output hash keys (d.0) (d.1).owner)
    (boolean (is_some (own_script keys (d.0))))

-- ---- inputs

-- the names of the deposits that a transaction of this name spends
abbrev pub spent_deposits : Advert → Which → List (List ℕ)
spent_deposits advert names.Init = names_of (persistent advert.pre)
spent_deposits advert (names.At path) = puts_at (at advert.root path)

-- the key that signs; a wallet doesn't say its own
abbrev pub key_by : Option Wallet → Signer → Data
key_by None s = text_value (hex_text s.key)
key_by (Some w) s = null

abbrev pub signer_by : Option Wallet → Signer → Data
signer_by wallet s = object_of (
    (codes "key", key_by wallet s)
    ∷ (codes "label", text_value (signer_text wallet s.label))
    ∷ (codes "party", text_value (label_party s.label))
    ∷ (codes "when", text_value (verb_text s.verb))
    ∷ [])

-- an input that spends this deposit, or the position
abbrev pub input_by : Which → Option (List ℕ) → Input → Data
input_by which deposit i = object_of (
    (codes "deposit", text_or_null deposit)
    ∷ (codes "position", spent_position which deposit)
    ∷ (codes "signers", list_value (map (signer_by i.wallet) i.signers))
    ∷ (codes "txid", txid_data i.spent.outpoint.txid)
    ∷ (codes "value", number_value i.spent.value)
    ∷ (codes "vout", number_value i.spent.outpoint.vout)
    ∷ [])

-- those from number k on, by the deposits that the transaction spends
abbrev pub inputs_by : Which → List (List ℕ) → ℕ → List Input → List Data
inputs_by which names k [] = []
inputs_by which names k (i ∷ is) = input_by which (parts.deposit_by which names k) i ∷ inputs_by which names (k + 1) is

-- ---- transactions

-- satoshi for 1,000 virtual bytes
abbrev pub rate_of : ℕ → ℕ → ℕ
rate_of fee size = (1000 * fee) / size

unfoldable pub transaction_by : Option (List ℕ) → Advert → Transaction → Data
transaction_by network advert t = object_of (
    (codes "fee", number_value (fee_by t))
    ∷ (codes "fee_rate", number_value (rate_of (fee_by t) (size_by advert t)))
    ∷ (codes "inputs", list_value (inputs_by t.which (spent_deposits advert t.which) 0 t.inputs))
    ∷ (codes "lock", number_value t.tx.lock)
    ∷ (codes "name", text_value (which_text t.which))
    ∷ (codes "outputs", list_value (outputs_data network t.tx.outputs (made_by advert t.which)))
    ∷ (codes "secrets", list_value (map text_value (revealed_by advert t.which)))
    ∷ (codes "size", number_value (size_by advert t))
    ∷ (codes "txid", txid_data t.txid)
    ∷ [])

-- ---- the deal

abbrev pub deal_by : (List ℕ → List ℕ) → Option (List ℕ) → Keys → List (List ℕ × OutPoint) → Advert → List Transaction → Data
deal_by hash network keys bound advert transactions = object_of (
    (codes "deposits", list_value (map (deposit_by hash network keys bound) (deposits advert.pre)))
    ∷ (codes "network", text_or_null network)
    ∷ (codes "payouts", list_value (map (payee_data hash network keys) (paid_parties advert)))
    ∷ (codes "transactions", list_value (map (transaction_by network advert) transactions))
    ∷ [])
