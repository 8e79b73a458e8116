-- What is claimed of plain deals, whose files give keys, places and hashes alone: their plans have no payees and no addresses, all of their
-- inputs have digests, and all that is shown of them names labels of keys.
use Rattle.std.specs.Prelude.{◌≡◌, ℕ, ◌+◌, List, [], ◌∷◌, ◌++◌, map, reverse, true, false, Option, Some, None, Ok, codes}
use Rattle.std.specs.Fmt.{decimal}
use Rattle.std.specs.List.{flat_map}
use Rattle.spec_data.specs.Digits.{hex_text}
use Rattle.spec_terms.specs.Advert.{Advert}
use Rattle.spec_terms.specs.Precondition.{Holding, deposits}
use Rattle.spec_bitcoin.specs.declared.label.Label.{Label}
use Rattle.spec_bitcoin.specs.Keys.{label_text, pay_to}
use Rattle.spec_compiler.specs.Keyed.Keys.{Keys}
use Rattle.spec_compiler.specs.Keyed.Instance.{Instance}
use Rattle.spec_compiler.specs.declared.unsigned.Spent.{Spent}
use Rattle.spec_compiler.specs.Keyed.Statements.{AreKeyDeposits}
use Rattle.spec_compiler.specs.Keyed.Transactions.{deposit, pays, tx_of}
use Rattle.spec_compiler.specs.Keyed.Compilation.{scripts}
use Rattle.spec_text.specs.Lines.{lines_of, words_of}
use Rattle.spec_text.specs.PlanText.{script_line}
use Rattle.spec_text.specs.RunText.{newline}
use Rattle.spec_tool.specs.declared.psbt.PsbtInput.{PsbtInput}
use Rattle.spec_tool.specs.Keyed.Listed.{Listed, listed, which_text}
use Rattle.spec_tool.specs.Psbt.{Psbt}
use Rattle.spec_tool.specs.PsbtText.{psbt_line}
use Rattle.spec_deal.specs.declared.deal.Deal.{Deal}
use Rattle.spec_deal.specs.declared.signed.Signed.{Signed}
use Rattle.spec_deal.specs.DealFile.{read_deal}
use Rattle.spec_deal.specs.DealText.{line_of, PlanLine, of_runs, of_deals, verb_text, tx_line, digest_line, lines_text, plan_text}
use Rattle.spec_deal.specs.DealText.{psbts_text, missing_text, proof_words, held_text}
use Rattle.spec_deal.specs.Finished.{label_party}
use Rattle.spec_deal.specs.Given.{missing, held, first_unendorsed}
use Rattle.spec_deal.specs.Setting.{deal_keys, deal_instance}
use Rattle.spec_deal.specs.Slots.{Slot, input_slots}
use Rattle.spec_deal.specs.Verifier.{Verifier}
use Rattle.theory_deal.specs.FirstOf.{EachIs}

-- ---- files

-- a line names no network and no payee, and gives no deposit a script
pub record IsPlainLine (line : List ℕ) : Type 0 where
  pub no_network : (word : List ℕ) → words_of line ≡ codes "network" ∷ word ∷ [] → ⊥
  pub no_payee : (name word : List ℕ) → words_of line ≡ codes "pay" ∷ name ∷ word ∷ [] → ⊥
  pub no_wallet : (name txid vout word : List ℕ) → words_of line ≡ codes "deposit" ∷ name ∷ txid ∷ vout ∷ word ∷ [] → ⊥

abbrev pub IsPlainFile : List ℕ → Type 0
IsPlainFile text = EachIs IsPlainLine (lines_of text)

-- a deal has no network, and neither deposits nor payouts of wallets
pub record IsPlainDeal (deal : Deal) : Type 0 where
  pub network : deal.network ≡ None
  pub wallets : deal.wallets ≡ []
  pub payees : deal.payees ≡ []

-- ---- texts

-- a deposit, and the output script of its owner's key that has to stand at its place
abbrev pub plain_deposit : (List ℕ → List ℕ) → Keys → Instance → List ℕ × Holding → PlanLine
plain_deposit hash keys s d =
    of_deals (line_of
    (codes "deposit" ∷ d.0 ∷ hex_text (reverse (deposit hash keys s (d.0) (d.1)).outpoint.txid)
    ∷ decimal (deposit hash keys s (d.0) (d.1)).outpoint.vout ∷ decimal (deposit hash keys s (d.0) (d.1)).value
    ∷ hex_text (pay_to (hash (deposit hash keys s (d.0) (d.1)).script)) ∷ []))

-- which signature it is, by the label of its key, and what for
abbrev pub plain_words : Slot → List (List ℕ)
plain_words slot = which_text slot.which ∷ decimal slot.input ∷ label_text slot.label ∷ verb_text slot.verb ∷ []

abbrev pub plain_sign : Slot → PlanLine
plain_sign slot = of_deals (line_of (codes "sign" ∷ plain_words slot))

-- of the inputs from number k on, each the digest and who signs
abbrev pub plain_inputs : (List ℕ → List ℕ) → Keys → Advert → Listed → ℕ → List Spent → List (List Label) → List PlanLine
plain_inputs hash keys advert l k [] signers = []
plain_inputs hash keys advert l k (spent ∷ spends) [] = []
plain_inputs hash keys advert l k (spent ∷ spends) (labels ∷ signers) =
    (digest_line hash l k spent ∷ map plain_sign (input_slots keys advert l k spent labels))
    ++ plain_inputs hash keys advert l (k + 1) spends signers

abbrev pub plain_listed : (List ℕ → List ℕ) → Keys → Advert → Listed → List PlanLine
plain_listed hash keys advert l = tx_line hash l ∷ plain_inputs hash keys advert l 0 l.pending.spends l.signers

-- the scripts, the deposits, and the transactions in order
abbrev pub plain_plan : (List ℕ → List ℕ) → Keys → Instance → List PlanLine
plain_plan hash keys s =
    of_runs (codes "contract 0 compiled" ++ newline)
    ∷ (map (λ p. of_runs (script_line p)) (scripts hash keys s)
    ++ (map (plain_deposit hash keys s) (deposits s.advert.pre) ++ flat_map (plain_listed hash keys s.advert) (listed hash keys s)))

-- an input with the output that it spends, its hash type and its script
abbrev pub plain_input : (List ℕ → List ℕ) → Spent → PsbtInput
plain_input hash spent = record {
  spent = Some (pays hash spent.script spent.value);
  partial = [];
  all = true;
  script = Some spent.script;
  witness = None;
}

abbrev pub plain_psbt : (List ℕ → List ℕ) → Listed → Psbt
plain_psbt hash l = record { tx = tx_of l.pending; inputs = map (plain_input hash) l.pending.spends }

abbrev pub plain_missing : Slot → List ℕ
plain_missing slot = line_of (codes "missing" ∷ plain_words slot)

abbrev pub plain_gate : Option Slot → List ℕ
plain_gate None = codes "init may be signed" ++ newline
plain_gate (Some slot) = line_of (codes "init not endorsed" ∷ which_text slot.which ∷ label_party slot.label ∷ [])

abbrev pub plain_held : (List ℕ → List ℕ) → Keys → List Signed → Slot → List ℕ
plain_held hash keys given slot = line_of (codes "held" ∷ (plain_words slot ++ proof_words hash keys given slot))

-- all of it
pub record PrintsPlain (hash : List ℕ → List ℕ) (network : Option (List ℕ)) (keys : Keys) (s : Instance) : Type 0 where
  pub plan : plan_text hash network keys s ≡ lines_text (plain_plan hash keys s)
  pub psbts : psbts_text hash keys s ≡ flat_map (λ l. psbt_line (plain_psbt hash l)) (listed hash keys s)
  pub missing : (given : List Signed) → missing_text hash keys s given
      ≡ flat_map plain_missing (missing hash keys s given) ++ plain_gate (first_unendorsed hash keys s given)
  pub held : (given : List Signed) → held_text hash keys s given ≡ flat_map (plain_held hash keys given) (held hash keys s given)

-- ---- what is claimed

pub record IsPlain (hash : List ℕ → List ℕ) (advert : Advert) (deal : Deal) : Type 0 where
  pub deal_is : IsPlainDeal deal
  pub of_keys : AreKeyDeposits (deal_keys deal)
  pub prints : PrintsPlain hash deal.network (deal_keys deal) (deal_instance advert deal)

-- of each plain file that is taken
abbrev pub PlainDeals : Type 0
PlainDeals = (v : Verifier) (hash : List ℕ → List ℕ) (advert : Advert) (text : List ℕ) (deal : Deal)
    → IsPlainFile text → read_deal v advert text ≡ Ok deal → IsPlain hash advert deal
