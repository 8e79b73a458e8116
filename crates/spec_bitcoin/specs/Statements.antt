-- What is claimed of the spelling of transactions, of the bytes of scripts, and of the texts of labels.
use Rattle.std.specs.Prelude.{◌≡◌, ℕ, List, [], ◌++◌, Ok, Err, Some, true}
use Rattle.std.specs.List.{list_all}
use Rattle.spec_bitcoin.specs.declared.label.Label.{Label}
use Rattle.spec_bitcoin.specs.declared.script.Op.{Op}
use Rattle.spec_bitcoin.specs.declared.tx.Tx.{Tx}
use Rattle.spec_bitcoin.specs.Spelling.{Spells, IsBytes}
use Rattle.spec_bitcoin.specs.Reading.{transaction_of, IsBadAt}
use Rattle.spec_bitcoin.specs.Keys.{IsLabel, label_text}
use Rattle.spec_bitcoin.specs.Scripts.{encode, script_ops, is_written}

-- bytes spell at most one transaction
abbrev pub OneTransaction : Type 0
OneTransaction = (bytes : List ℕ) (a b : Tx) → Spells bytes a → Spells bytes b → a ≡ b

-- no spelling is a proper prefix of another
abbrev pub NoSpellingBegins : Type 0
NoSpellingBegins = (bytes more : List ℕ) (a b : Tx) → Spells bytes a → Spells (bytes ++ more) b → more ≡ []

-- what is spelled is read
abbrev pub SpelledIsRead : Type 0
SpelledIsRead = (bytes : List ℕ) (tx : Tx) → Spells bytes tx → transaction_of bytes ≡ Ok tx

-- what is read is spelled
abbrev pub ReadIsSpelled : Type 0
ReadIsSpelled = (bytes : List ℕ) (tx : Tx) → IsBytes bytes → transaction_of bytes ≡ Ok tx → Spells bytes tx

-- where nothing is read, the place is the end of the longest prefix that begins a spelling
abbrev pub FaultIsFirst : Type 0
FaultIsFirst = (bytes : List ℕ) (p : ℕ) → IsBytes bytes → transaction_of bytes ≡ Err p → IsBadAt bytes p

-- operations that are written read back as the same
abbrev pub WrittenIsRead : Type 0
WrittenIsRead = (ops : List Op) → list_all is_written ops ≡ true → script_ops (encode ops) ≡ Some ops

-- no two labels have one text
abbrev pub OneLabel : Type 0
OneLabel = (a b : Label) → IsLabel a → IsLabel b → label_text a ≡ label_text b → a ≡ b
