-- What is printed of a deal: what it needs, its plan, its transactions for signers, and which signatures are there.
use Rattle.std.specs.Prelude.{ℕ, ◌+◌, List, [], ◌∷◌, ◌++◌, map, reverse, Bool, true, false, not, ◌&&◌, Option, Some, None, is_some}
use Rattle.std.specs.Prelude.{if◌then◌else◌, codes}
use Rattle.std.specs.Fmt.{decimal}
use Rattle.std.specs.List.{flat_map}
use Rattle.std.specs.Option.{option_map_or}
use Rattle.spec_data.specs.Digits.{hex_text}
use Rattle.spec_terms.specs.Advert.{Advert}
use Rattle.spec_terms.specs.Precondition.{Holding, deposits}
use Rattle.spec_bitcoin.specs.declared.label.Label.{Label}
use Rattle.spec_bitcoin.specs.Digests.{txid}
use Rattle.spec_bitcoin.specs.Keys.{label_text}
use Rattle.spec_compiler.specs.Keyed.OwnScripts.{pays_to_key_hash}
use Rattle.spec_bitcoin.specs.Spelling.{stripped}
use Rattle.spec_compiler.specs.Keyed.Keys.{Keys}
use Rattle.spec_compiler.specs.Keyed.Instance.{Instance}
use Rattle.spec_compiler.specs.declared.unsigned.Spent.{Spent}
use Rattle.spec_compiler.specs.Keyed.Transactions.{deposit, payee_script, tx_of, digest_of_spent}
use Rattle.spec_compiler.specs.Keyed.Compilation.{scripts}
use Rattle.spec_text.specs.PlanText.{script_line}
use Rattle.spec_text.specs.RunText.{newline}
use Rattle.spec_tool.specs.declared.psbt.PsbtInput.{PsbtInput}
use Rattle.spec_tool.specs.Keyed.Listed.{Listed, listed, which_text}
use Rattle.spec_tool.specs.Psbt.{Psbt}
use Rattle.spec_tool.specs.PsbtText.{psbt_line}
use Rattle.spec_address.specs.Address.{address}
use Rattle.spec_deal.specs.declared.deal.Needed.{Needed}
use Rattle.spec_deal.specs.declared.deal.Needed.TheVariants.{Key, Deposit, Hash, Network, Payee}
use Rattle.spec_deal.specs.declared.finish.Verb.{Verb}
use Rattle.spec_deal.specs.declared.finish.Verb.TheVariants as verbs
use Rattle.spec_deal.specs.declared.signed.Signed.{Signed}
use Rattle.spec_deal.specs.declared.transaction.Wallet.{Wallet}
use Rattle.spec_deal.specs.Needed.{needed}
use Rattle.spec_deal.specs.Setting.{has_own_scripts}
use Rattle.spec_deal.specs.Used.{paid_parties}
use Rattle.spec_deal.specs.Slots.{Slot, input_slots, slot_key, slot_digest}
use Rattle.spec_deal.specs.Given.{has, unsettled, has_unverified, held, signature_for, witness_for, first_unendorsed}
use Rattle.spec_deal.specs.Finished.{bytes_or_none, items_or_none, label_party}
use Rattle.spec_deal.specs.Wallets.{input_wallet, wallet_of, spent_output, has_digest, signer_text, first_item, second_item}

-- the words with a space between each two, and a line feed
abbrev pub line_of : List (List ℕ) → List ℕ
line_of [] = newline
line_of (word ∷ []) = word ++ newline
line_of (word ∷ (next ∷ words)) = word ++ (codes " " ++ line_of (next ∷ words))

-- ---- keys

-- what is needed, without what is to be given
abbrev pub needed_words : Needed → List (List ℕ)
needed_words (Key label) = codes "key" ∷ label_text label ∷ []
needed_words (Deposit name) = codes "deposit" ∷ name ∷ []
needed_words (Hash name) = codes "hash" ∷ name ∷ []
needed_words Network = codes "network" ∷ []
needed_words (Payee party) = codes "pay" ∷ party ∷ []

abbrev pub blank : List ℕ
blank = codes ".."

-- a blank for each word that is to be given
abbrev pub blanks : Needed → List (List ℕ)
blanks (Key label) = blank ∷ []
blanks (Deposit name) = blank ∷ blank ∷ []
blanks (Hash name) = blank ∷ []
blanks Network = blank ∷ []
blanks (Payee party) = blank ∷ []

-- the deal file of a contract with blanks
abbrev pub keys_text : Advert → List ℕ
keys_text advert = flat_map (λ what. line_of (needed_words what ++ blanks what)) (needed advert)

-- ---- scripts

-- the address of an output script, where a network is named and the script has one
abbrev pub address_words : Option (List ℕ) → List ℕ → List (List ℕ)
address_words None script = []
address_words (Some hrp) script = option_map_or (λ text. text ∷ []) (address hrp script) []

-- an output script, and its address
abbrev pub script_words : Option (List ℕ) → List ℕ → List (List ℕ)
script_words network script = hex_text script ∷ address_words network script

-- ---- plan

-- a line of a plan, and whether it stands in the plan of a run, too
pub record PlanLine : Type 0 where
  pub of_runs : Bool
  pub text : List ℕ

abbrev pub of_runs : List ℕ → PlanLine
of_runs text = record { of_runs = true; text = text }

abbrev pub of_deals : List ℕ → PlanLine
of_deals text = record { of_runs = false; text = text }

-- a deposit, and the output script that has to stand at its place; a txid is shown with its bytes reversed
abbrev pub spent_words : (List ℕ → List ℕ) → Option (List ℕ) → Option Wallet → List ℕ → Spent → List (List ℕ)
spent_words hash network wallet name d =
    codes "deposit" ∷ name ∷ hex_text (reverse d.outpoint.txid) ∷ decimal d.outpoint.vout ∷ decimal d.value
    ∷ script_words network (spent_output hash wallet d).script

abbrev pub deposit_line : (List ℕ → List ℕ) → Option (List ℕ) → Keys → Instance → List ℕ × Holding → PlanLine
deposit_line hash network keys s d =
    of_deals (line_of (spent_words hash network (wallet_of keys (d.0)) (d.0) (deposit hash keys s (d.0) (d.1))))

-- where a party is paid
abbrev pub payee_line : (List ℕ → List ℕ) → Option (List ℕ) → Keys → List ℕ → PlanLine
payee_line hash network keys party =
    of_deals (line_of (codes "pay" ∷ party ∷ script_words network (payee_script hash keys party)))

-- whether its file gave keys, places and hashes alone
abbrev pub is_plain : Option (List ℕ) → Keys → Bool
is_plain network keys = not (is_some network) && not (has_own_scripts keys)

-- where each party is paid whom a branch pays; nothing of a plain deal
abbrev pub payee_lines : (List ℕ → List ℕ) → Option (List ℕ) → Keys → Instance → List PlanLine
payee_lines hash network keys s =
    if is_plain network keys then [] else map (payee_line hash network keys) (paid_parties s.advert)

abbrev pub verb_text : Verb → List ℕ
verb_text verbs.Init = codes "init"
verb_text verbs.Authorise = codes "authorise"
verb_text verbs.Endorse = codes "endorse"

-- which signature it is, and what for
abbrev pub slot_words : Slot → List (List ℕ)
slot_words slot = which_text slot.which ∷ decimal slot.input ∷ signer_text slot.wallet slot.label ∷ verb_text slot.verb ∷ []

abbrev pub sign_line : Slot → PlanLine
sign_line slot = of_deals (line_of (codes "sign" ∷ slot_words slot))

abbrev pub digest_line : (List ℕ → List ℕ) → Listed → ℕ → Spent → PlanLine
digest_line hash l k spent =
    of_runs (line_of (codes "digest" ∷ which_text l.which ∷ decimal k ∷ hex_text (digest_of_spent hash (tx_of l.pending) spent) ∷ []))

-- the digest of input k, if it has one
abbrev pub digest_lines : (List ℕ → List ℕ) → Listed → ℕ → Option Wallet → Spent → List PlanLine
digest_lines hash l k wallet spent = if has_digest wallet then digest_line hash l k spent ∷ [] else []

-- of the inputs from number k on, each the digest and who signs
abbrev pub input_lines : (List ℕ → List ℕ) → Keys → Advert → Listed → ℕ → List Spent → List (List Label) → List PlanLine
input_lines hash keys advert l k [] signers = []
input_lines hash keys advert l k (spent ∷ spends) [] = []
input_lines hash keys advert l k (spent ∷ spends) (labels ∷ signers) =
    (digest_lines hash l k (input_wallet keys advert l.which k) spent ++ map sign_line (input_slots keys advert l k spent labels))
    ++ input_lines hash keys advert l (k + 1) spends signers

abbrev pub tx_line : (List ℕ → List ℕ) → Listed → PlanLine
tx_line hash l =
    of_runs (line_of
    (codes "tx" ∷ which_text l.which ∷ hex_text (reverse (txid hash (tx_of l.pending))) ∷ hex_text (stripped (tx_of l.pending)) ∷ []))

abbrev pub listed_lines : (List ℕ → List ℕ) → Keys → Advert → Listed → List PlanLine
listed_lines hash keys advert l = tx_line hash l ∷ input_lines hash keys advert l 0 l.pending.spends l.signers

-- the scripts, the deposits, the payees, and the transactions in order, with addresses of the network
abbrev pub plan_lines : (List ℕ → List ℕ) → Option (List ℕ) → Keys → Instance → List PlanLine
plan_lines hash network keys s =
    of_runs (codes "contract 0 compiled" ++ newline)
    ∷ (map (λ p. of_runs (script_line p)) (scripts hash keys s)
    ++ (map (deposit_line hash network keys s) (deposits s.advert.pre)
    ++ (payee_lines hash network keys s ++ flat_map (listed_lines hash keys s.advert) (listed hash keys s))))

abbrev pub lines_text : List PlanLine → List ℕ
lines_text lines = flat_map (λ (line : PlanLine). line.text) lines

abbrev pub plan_text : (List ℕ → List ℕ) → Option (List ℕ) → Keys → Instance → List ℕ
plan_text hash network keys s = lines_text (plan_lines hash network keys s)

-- ---- psbt

-- an input that spends this, without signatures; a wallet is told what it spends and signs as it does by default
abbrev pub unsigned_input : (List ℕ → List ℕ) → Option Wallet → Spent → PsbtInput
unsigned_input hash wallet spent = record {
  spent = Some (spent_output hash wallet spent);
  partial = [];
  all = not (is_some wallet);
  script = if is_some wallet then None else Some spent.script;
  witness = None;
}

-- those from number k on
abbrev pub unsigned_inputs : (List ℕ → List ℕ) → Keys → Advert → Listed → ℕ → List Spent → List PsbtInput
unsigned_inputs hash keys advert l k [] = []
unsigned_inputs hash keys advert l k (spent ∷ spends) =
    unsigned_input hash (input_wallet keys advert l.which k) spent ∷ unsigned_inputs hash keys advert l (k + 1) spends

-- a transaction for signers
abbrev pub unsigned_psbt : (List ℕ → List ℕ) → Keys → Advert → Listed → Psbt
unsigned_psbt hash keys advert l =
    record { tx = tx_of l.pending; inputs = unsigned_inputs hash keys advert l 0 l.pending.spends }

-- all transactions, a line each
abbrev pub psbts_text : (List ℕ → List ℕ) → Keys → Instance → List ℕ
psbts_text hash keys s = flat_map (λ l. psbt_line (unsigned_psbt hash keys s.advert l)) (listed hash keys s)

-- ---- missing

-- a signature that isn't there, or a wallet's that is
abbrev pub missing_line : (List ℕ → List ℕ) → Keys → List Signed → Slot → List ℕ
missing_line hash keys given slot =
    line_of ((if has hash keys given slot then codes "unverified" else codes "missing") ∷ slot_words slot)

-- whether the initial transaction may be signed, or whose endorsement is missing
abbrev pub gate_line : Bool → Option Slot → List ℕ
gate_line unverified None =
    (if unverified then codes "init may be signed once the unverified are checked" else codes "init may be signed") ++ newline
gate_line unverified (Some slot) = line_of (codes "init not endorsed" ∷ which_text slot.which ∷ label_party slot.label ∷ [])

abbrev pub missing_text : (List ℕ → List ℕ) → Keys → Instance → List Signed → List ℕ
missing_text hash keys s given =
    flat_map (missing_line hash keys given) (unsettled hash keys s given)
    ++ gate_line (has_unverified hash keys s given) (first_unendorsed hash keys s given)

-- ---- held

-- the key, the digest and the signature
abbrev pub proof_words : (List ℕ → List ℕ) → Keys → List Signed → Slot → List (List ℕ)
proof_words hash keys given slot =
    hex_text (slot_key hash keys slot) ∷ hex_text (slot_digest hash slot)
    ∷ hex_text (bytes_or_none (signature_for hash keys given slot)) ∷ []

abbrev pub key_held_line : (List ℕ → List ℕ) → Keys → List Signed → Slot → List ℕ
key_held_line hash keys given slot = line_of (codes "held" ∷ (slot_words slot ++ proof_words hash keys given slot))

-- an item of a witness
abbrev pub item_word : List ℕ → List ℕ
item_word [] = codes "-"
item_word (b ∷ bytes) = hex_text (b ∷ bytes)

-- a wallet's witness: by a key's hash its key, the digest and its signature, else its items
abbrev pub witness_line : (List ℕ → List ℕ) → Slot → Wallet → List (List ℕ) → List ℕ
witness_line hash slot w items =
    if pays_to_key_hash w.script
    then line_of (codes "held" ∷ (slot_words slot
    ++ hex_text (second_item items) ∷ hex_text (slot_digest hash slot) ∷ hex_text (first_item items) ∷ []))
    else line_of (codes "witness" ∷ (slot_words slot ++ map item_word items))

abbrev pub held_line : (List ℕ → List ℕ) → Keys → List Signed → Slot → List ℕ
held_line hash keys given slot = elim slot.wallet [
  | None ↦ key_held_line hash keys given slot
  | Some w ↦ witness_line hash slot w (items_or_none (witness_for hash keys given slot))
]

abbrev pub held_text : (List ℕ → List ℕ) → Keys → Instance → List Signed → List ℕ
held_text hash keys s given = flat_map (held_line hash keys given) (held hash keys s given)
