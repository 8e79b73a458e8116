-- What the plan of a deal shows: its scripts, deposits, payees and transactions, with all digests and all who sign, in order.
use Rattle.std.specs.Prelude.{ℕ, ◌+◌, List, [], ◌∷◌, ◌++◌, map, if◌then◌else◌, Option}
use Rattle.std.specs.List.{flat_map}
use Rattle.std.specs.Option.{option_map_or}
use Rattle.spec_data.specs.Lists.{look_up}
use Rattle.spec_terms.specs.Precondition.{Holding, deposits}
use Rattle.spec_bitcoin.specs.Keys.{pay_to}
use Rattle.spec_compiler.specs.Keyed.Compilation.{scripts}
use Rattle.spec_compiler.specs.Keyed.Instance.{Instance}
use Rattle.spec_compiler.specs.Keyed.Keys.{Keys, own_script, own_payee}
use Rattle.spec_compiler.specs.Keyed.Transactions.{party_script, outpoint_or_none}
use Rattle.spec_text.specs.Words.{◌>>=◌}
use Rattle.spec_tool.specs.declared.which.Which.{Which}
use Rattle.spec_address.specs.Address.{address}
use Rattle.spec_deal.specs.declared.transaction.Input.{Input}
use Rattle.spec_deal.specs.declared.transaction.Signer.{Signer}
use Rattle.spec_deal.specs.declared.transaction.Transaction.{Transaction}
use Rattle.spec_deal.specs.DealText.{is_plain}
use Rattle.spec_deal.specs.Transactions.{transactions}
use Rattle.spec_deal.specs.Used.{paid_parties}
use Rattle.spec_deal.specs.Wallets.{has_digest}
use Rattle.theory_deal_text.specs.Asked.{shown_signer}
use Rattle.theory_deal_text.specs.PlanLines.{ShownScript, ShownDeposit, PlanLine}
use Rattle.theory_deal_text.specs.PlanLines as line

-- ---- deposits and payees

-- with its address in the network that is named, if it has one
abbrev pub shown_script : Option (List ℕ) → List ℕ → ShownScript
shown_script network script = record { bytes = script; address = network >>= λ hrp. address hrp script }

-- what a party's key of its deposits is paid at
abbrev pub key_output : (List ℕ → List ℕ) → Keys → List ℕ → List ℕ
key_output hash keys party = pay_to (hash (party_script hash keys party))

-- a deposit lies where the deal says, and has its wallet's script, or that of its owner's key
abbrev pub shown_deposit : (List ℕ → List ℕ) → Option (List ℕ) → Keys → Instance → List ℕ × Holding → ShownDeposit
shown_deposit hash network keys s d = record {
  name = d.0;
  place = outpoint_or_none (look_up (d.0) s.bound);
  value = (d.1).value;
  script = shown_script network (option_map_or (λ own. own) (own_script keys (d.0)) (key_output hash keys (d.1).owner));
}

-- a party is paid at its own script, or at that of its key
abbrev pub shown_payee : (List ℕ → List ℕ) → Option (List ℕ) → Keys → List ℕ → PlanLine
shown_payee hash network keys party =
    line.pays party (shown_script network (option_map_or (λ own. own) (own_payee keys party) (key_output hash keys party)))

-- those whom a branch pays; of a plain deal nobody
abbrev pub shown_payees : (List ℕ → List ℕ) → Option (List ℕ) → Keys → Instance → List PlanLine
shown_payees hash network keys s =
    if is_plain network keys then [] else map (shown_payee hash network keys) (paid_parties s.advert)

-- ---- transactions

-- the digest of input k of the transaction of this name, if it has one
abbrev pub shown_digest : Which → ℕ → Input → List PlanLine
shown_digest which k i = if has_digest i.wallet then line.digest which k i.digest ∷ [] else []

abbrev pub shown_signing : Which → ℕ → Input → Signer → PlanLine
shown_signing which k i x =
    line.signs (record { which = which; input = k; signer = shown_signer i.wallet x.label; verb = x.verb })

-- of each input from number k on the digest, and all who sign it
abbrev pub shown_inputs : Which → ℕ → List Input → List PlanLine
shown_inputs which k [] = []
shown_inputs which k (i ∷ is) =
    (shown_digest which k i ++ map (shown_signing which k i) i.signers) ++ shown_inputs which (k + 1) is

abbrev pub shown_transaction : Transaction → List PlanLine
shown_transaction t = line.transaction t.which t.txid t.tx ∷ shown_inputs t.which 0 t.inputs

-- ---- the plan

abbrev pub shown_plan : (List ℕ → List ℕ) → Option (List ℕ) → Keys → Instance → List PlanLine
shown_plan hash network keys s =
    line.compiled
    ∷ (map (λ p. line.script (p.0) (p.1)) (scripts hash keys s)
    ++ (map (λ d. line.deposit (shown_deposit hash network keys s d)) (deposits s.advert.pre)
    ++ (shown_payees hash network keys s ++ flat_map shown_transaction (transactions hash keys s))))
