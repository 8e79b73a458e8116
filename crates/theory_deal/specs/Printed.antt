-- What is claimed of the text that `finish` prints: read as hexadecimal it is the spelling (BIP 144) of the finished transaction, and of no
-- other.
use Rattle.std.specs.Prelude.{◌≡◌, ℕ, List, [], ◌∷◌, ◌++◌, Option, Some, None, Result, Ok, Err}
use Rattle.spec_data.specs.Digits.{hex_text, read_hex}
use Rattle.spec_data.specs.Hashes.{HashesBytes}
use Rattle.spec_terms.specs.Advert.{Advert}
use Rattle.spec_terms.specs.Faults.{IsWellFormed}
use Rattle.spec_bitcoin.specs.declared.tx.Tx.{Tx}
use Rattle.spec_bitcoin.specs.Reading.{transaction_of}
use Rattle.spec_bitcoin.specs.Spelling.{spelling, Spells}
use Rattle.spec_compiler.specs.Keyed.Keys.{Keys}
use Rattle.spec_compiler.specs.Keyed.Instance.{Instance}
use Rattle.spec_text.specs.Lines.{lines_of}
use Rattle.spec_text.specs.RunText.{newline}
use Rattle.spec_text.specs.Words.{◌>>=◌}
use Rattle.spec_tool.specs.declared.which.Which.{Which}
use Rattle.spec_tool.specs.Keyed.Listed.{Listed, listed_at}
use Rattle.spec_deal.specs.declared.deal.Deal.{Deal}
use Rattle.spec_deal.specs.declared.entry.Shown.{Shown}
use Rattle.spec_deal.specs.declared.signed.Signed.{Signed}
use Rattle.spec_deal.specs.DealFile.{read_deal}
use Rattle.spec_deal.specs.Finished.{finished, finish_refusal}
use Rattle.spec_deal.specs.Setting.{deal_keys, deal_instance}
use Rattle.spec_deal.specs.SignatureFile.{read_signatures}
use Rattle.spec_deal.specs.Verifier.{Verifier}
use Rattle.theory_deal.specs.Whole.{AreRead}

-- ---- reading

-- the line of a text of one line
abbrev pub only_line : List (List ℕ) → Option (List ℕ)
only_line [] = None
only_line (line ∷ []) = Some line
only_line (line ∷ (next ∷ lines)) = None

-- the transaction that was read of bytes
abbrev pub if_read : Result Tx ℕ → Option Tx
if_read (Ok tx) = Some tx
if_read (Err place) = None

-- the transaction that the only line of a text spells in hexadecimal
abbrev pub transaction_in : List ℕ → Option Tx
transaction_in text = only_line (lines_of text) >>= λ line. read_hex line >>= λ bytes. if_read (transaction_of bytes)

-- ---- what follows

-- the finished transaction is read again from its text, and its bytes spell no other
pub record IsReadAgain (hash : List ℕ → List ℕ) (keys : Keys) (s : Instance) (given : List Signed) (strings : List Shown) (l : Listed)
    : Type 0 where
  pub read : transaction_in (hex_text (spelling (finished hash keys s given strings l)) ++ newline)
      ≡ Some (finished hash keys s given strings l)
  pub spells : Spells (spelling (finished hash keys s given strings l)) (finished hash keys s given strings l)
  pub only : (tx : Tx) → Spells (spelling (finished hash keys s given strings l)) tx → tx ≡ finished hash keys s given strings l

-- of every well-formed contract and all files that are taken
abbrev pub ReadAgainTheorem : Type 0
ReadAgainTheorem =
    (v : Verifier) (hash : List ℕ → List ℕ) (advert : Advert) (deal_text : List ℕ) (deal : Deal) (file : List ℕ) (given : List Signed)
    (strings : List Shown) (which : Which) (l : Listed)
    → HashesBytes hash → IsWellFormed advert → read_deal v advert deal_text ≡ Ok deal
    → read_signatures v hash (deal_keys deal) (deal_instance advert deal) file ≡ Ok given
    → AreRead hash (deal_keys deal) (deal_instance advert deal) strings
    → listed_at hash (deal_keys deal) (deal_instance advert deal) which ≡ Some l
    → finish_refusal hash (deal_keys deal) (deal_instance advert deal) given strings l ≡ None
    → IsReadAgain hash (deal_keys deal) (deal_instance advert deal) given strings l
