-- The lines of a deal's plan, by what is known of its transactions and deposits.
use Rattle.std.specs.Prelude.{ℕ, ◌+◌, List, [], ◌∷◌, ◌++◌, reverse, codes, Option, if◌then◌else◌}
use Rattle.std.specs.Fmt.{decimal}
use Rattle.std.specs.List.{flat_map}
use Rattle.std.specs.Option.{option_map_or}
use Rattle.spec_data.specs.Digits.{hex_text}
use Rattle.spec_data.specs.Lists.{look_up}
use Rattle.spec_terms.specs.Advert.{Advert}
use Rattle.spec_terms.specs.Precondition.{Holding, deposits}
use Rattle.spec_terms.specs.declared.path.PathStep.{PathStep}
use Rattle.spec_bitcoin.specs.declared.label.Label.TheVariants.{Deposit}
use Rattle.spec_bitcoin.specs.declared.tx.OutPoint.{OutPoint}
use Rattle.spec_bitcoin.specs.Keys.{deposit_script, pay_to}
use Rattle.spec_compiler.specs.Keyed.Transactions.{outpoint_or_none}
use Rattle.spec_text.specs.PlanText.{script_line}
use Rattle.spec_text.specs.RunText.{newline}
use Rattle.spec_tool.specs.declared.which.Which.{Which}
use Rattle.spec_tool.specs.Keyed.Listed.{which_text}
use Rattle.spec_deal.specs.declared.deal.Deal.{Deal}
use Rattle.spec_deal.specs.declared.transaction.Signer.{Signer}
use Rattle.spec_deal.specs.declared.transaction.Input.{Input}
use Rattle.spec_deal.specs.declared.transaction.Transaction.{Transaction}
use Rattle.spec_deal.specs.declared.transaction.Wallet.{Wallet}
use Rattle.spec_deal.specs.DealText.{line_of, verb_text, is_plain}
use Rattle.spec_deal.specs.Setting.{key_at, deal_keys}
use Rattle.spec_deal.specs.Used.{paid_parties}
use Rattle.spec_deal.specs.Wallets.{has_digest, signer_text}
use Rattle.deal_payees.specs.Shown.{output_text}

-- ---- transactions

abbrev pub sign_text : Which → ℕ → Option Wallet → Signer → List ℕ
sign_text which k wallet signer =
    line_of (codes "sign" ∷ which_text which ∷ decimal k ∷ signer_text wallet signer.label ∷ verb_text signer.verb ∷ [])

-- the digest of an input, if it has one
abbrev pub digest_text : Which → ℕ → Option Wallet → List ℕ → List ℕ
digest_text which k wallet digest =
    if has_digest wallet then line_of (codes "digest" ∷ which_text which ∷ decimal k ∷ hex_text digest ∷ []) else []

abbrev pub input_text : Which → ℕ → Input → List ℕ
input_text which k input =
    digest_text which k input.wallet input.digest ++ flat_map (sign_text which k input.wallet) input.signers

-- of the inputs from number k on
abbrev pub inputs_text : Which → ℕ → List Input → List ℕ
inputs_text which k [] = []
inputs_text which k (input ∷ inputs) = input_text which k input ++ inputs_text which (k + 1) inputs

abbrev pub tx_text : Transaction → List ℕ
tx_text t = line_of (codes "tx" ∷ which_text t.which ∷ hex_text (reverse t.txid) ∷ hex_text t.bytes ∷ [])

abbrev pub transaction_text : Transaction → List ℕ
transaction_text t = tx_text t ++ inputs_text t.which 0 t.inputs

-- ---- deposits and payees

-- the output script of a wallet's own, or else that for whoever shows this script
abbrev pub output_by : (List ℕ → List ℕ) → Option (List ℕ) → List ℕ → List ℕ
output_by hash own script = option_map_or (λ script. script) own (pay_to (hash script))

-- the script of a party's deposits, by its key
abbrev pub key_script : Deal → List ℕ → List ℕ
key_script deal party = deposit_script (key_at deal.keys (Deposit party))

abbrev pub place_text : List ℕ → OutPoint → List ℕ
place_text name place =
    codes "deposit " ++ (name ++ (codes " " ++ (hex_text (reverse place.txid) ++ (codes " " ++ (decimal place.vout ++ codes " ")))))

-- a deposit of this name at this place, of a value, whose output is shown so
abbrev pub placed_parts : List ℕ → OutPoint → ℕ → List ℕ → List ℕ
placed_parts name place value shown = place_text name place ++ (decimal value ++ (codes " " ++ (shown ++ newline)))

-- an output, with the address where the deal names a network
abbrev pub shown_output : (List ℕ → List ℕ) → Deal → Option (List ℕ) → List ℕ → List ℕ
shown_output hash deal own script = output_text deal.network (output_by hash own script)

-- by what was given
abbrev pub deposit_text : (List ℕ → List ℕ) → Deal → List ℕ × Holding → List ℕ
deposit_text hash deal d =
    placed_parts (d.0) (outpoint_or_none (look_up (d.0) deal.deposits)) (d.1).value
    (shown_output hash deal (look_up (d.0) deal.wallets) (key_script deal (d.1).owner))

-- where a party is paid
abbrev pub payee_text : (List ℕ → List ℕ) → Deal → List ℕ → List ℕ
payee_text hash deal party =
    codes "pay " ++ (party ++ (codes " " ++ (shown_output hash deal (look_up party deal.payees) (key_script deal party) ++ newline)))

-- where each of those is paid whom the contract pays; nothing of a plain deal
abbrev pub payees_text : (List ℕ → List ℕ) → Deal → Advert → List ℕ
payees_text hash deal advert =
    if is_plain deal.network (deal_keys deal) then [] else flat_map (payee_text hash deal) (paid_parties advert)

-- ---- all of it

abbrev pub plan_by : (List ℕ → List ℕ) → Deal → Advert → List (List PathStep × List ℕ) → List Transaction → List ℕ
plan_by hash deal advert scripts transactions =
    codes "contract 0 compiled"
    ++ (newline ++ (flat_map script_line scripts ++ (flat_map (deposit_text hash deal) (deposits advert.pre)
    ++ (payees_text hash deal advert ++ flat_map transaction_text transactions))))
