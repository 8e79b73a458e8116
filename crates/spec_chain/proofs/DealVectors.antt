-- Deals for worked chains: with the keys of no wallet, and a hash that is quick to compute.
use Rattle.std.proofs.Common.{ℕ, List, [], ◌∷◌, ◌++◌}
use Rattle.std.specs.Prelude.{codes, filter, map, not, Some, None}
use Rattle.spec_data.specs.Digits.{hex_text, read_hex}
use Rattle.spec_terms.specs.Advert.{Advert}
use Rattle.spec_bitcoin.specs.declared.tx.OutPoint.{OutPoint}
use Rattle.spec_bitcoin.specs.declared.tx.TxIn.{TxIn}
use Rattle.spec_bitcoin.specs.declared.tx.Tx.{Tx}
use Rattle.spec_bitcoin.specs.Digests.{txid}
use Rattle.spec_bitcoin.specs.Spelling.{spelling}
use Rattle.spec_compiler.specs.Keyed.Instance.{Instance}
use Rattle.spec_compiler.specs.Keyed.Transactions.{tx_of}
use Rattle.spec_tool.specs.declared.which.Which.{Which}
use Rattle.spec_tool.specs.Keyed.Listed.{Listed, listed_at}
use Rattle.spec_deal.specs.declared.entry.Shown.{Shown}
use Rattle.spec_deal.specs.declared.signed.Signed.{Signed}
use Rattle.spec_deal.specs.Finished.{bytes_or_none, finished}
use Rattle.spec_deal.specs.Slots.{slots}
use Rattle.spec_deal.proofs.FileVectors.{weigh}
use Rattle.spec_deal.proofs.SignatureVectors.{keys, setting, sign, is_this}
use Rattle.spec_chain.specs.Chain.{stands, refused, collided, follow_chain}
use Rattle.spec_chain.specs.RefusedText.{chain_refused_line}
use Rattle.spec_chain.specs.StateText.{txid_text, state_text}

-- a contract, and the strings of its secrets
pub record Vectors : Type 0 where
  pub advert : Advert
  pub strings : List Shown

-- the string with these digits, of the secret of this name
abbrev pub string : List ℕ → List ℕ → Shown
string name digits = record { line = 1; name = name; bytes = bytes_or_none (read_hex digits) }

-- its deal, which has the hashes of these strings
abbrev pub deal : Vectors → Instance
deal w = record (setting w.advert) { hashes = map (λ (x : Shown). (x.name, weigh x.bytes)) w.strings }

-- ---- signatures

abbrev pub all_signed : Vectors → List Signed
all_signed w = sign (slots weigh keys (deal w))

-- all but the signature of this label for this transaction
abbrev pub all_but : List ℕ → List ℕ → Vectors → List Signed
all_but which label w = sign (filter (λ slot. not (is_this which label slot)) (slots weigh keys (deal w)))

abbrev pub unsigned : Vectors → List Signed
unsigned w = []

-- ---- transactions

-- what is made of the transaction of this name
abbrev pub of_listed : (Listed → List ℕ) → Vectors → Which → List ℕ
of_listed made w which = elim (listed_at weigh keys (deal w) which) [
  | None ↦ []
  | Some l ↦ made l
]

-- the line of a transaction
abbrev pub line_of_tx : Tx → List ℕ
line_of_tx tx = codes "tx " ++ hex_text (spelling tx)

-- the line of one of the deal's with its witnesses, which have all signatures and these strings
abbrev pub sent_with : List Shown → Vectors → Which → List ℕ
sent_with strings w which =
    of_listed (λ l. line_of_tx (finished weigh keys (deal w) (all_signed w) strings l)) w which

abbrev pub sent : Vectors → Which → List ℕ
sent w which = sent_with w.strings w which

abbrev pub with_inputs : (List TxIn → List TxIn) → Tx → Tx
with_inputs change tx = record tx { inputs = change tx.inputs }

-- with other witnesses
abbrev pub sent_but : (List TxIn → List TxIn) → Vectors → Which → List ℕ
sent_but change w which =
    of_listed (λ l. line_of_tx (with_inputs change (finished weigh keys (deal w) (all_signed w) w.strings l))) w which

-- without its witnesses
abbrev pub bare : Vectors → Which → List ℕ
bare w which = of_listed (λ l. line_of_tx (tx_of l.pending)) w which

-- its txid as wallets show it
abbrev pub shown_txid : Vectors → Which → List ℕ
shown_txid w which = of_listed (λ l. txid_text (txid weigh (tx_of l.pending))) w which

-- a stranger's input, which spends this place with these items
abbrev pub stranger_input : List (List ℕ) → OutPoint → TxIn
stranger_input items place = record { prev = place; script_sig = []; sequence = 4294967295; witness = items }

-- a stranger's transaction, which spends these places with these items
abbrev pub stranger_of : List OutPoint → List (List ℕ) → Tx
stranger_of places items = record {
  version = 1;
  inputs = map (stranger_input items) places;
  outputs = record { value = 5000; script = 81 ∷ [] } ∷ [];
  lock = 0;
}

abbrev pub stranger : OutPoint → List (List ℕ) → Tx
stranger place items = stranger_of (place ∷ []) items

-- ---- what is printed

-- of a chain, with these signatures and strings
abbrev pub told : Vectors → (Vectors → List Signed) → List Shown → List ℕ → List ℕ
told w given strings text = elim (follow_chain weigh keys (deal w) text) [
  | stands course tip ↦ state_text weigh keys (deal w) course tip (given w) strings
  | refused fault ↦ chain_refused_line fault
  | collided earlier later ↦ codes "collided"
]
