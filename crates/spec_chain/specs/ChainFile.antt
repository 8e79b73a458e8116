-- Chain files: transactions that a node has confirmed, as BIP 144 spells them, each below the height of its block; or the first line that
-- is none of a chain.
use Rattle.std.specs.Prelude.{ℕ, ◌+◌, List, [], ◌∷◌, ◌++◌, length, if◌then◌else◌, ◌==◌, nat_le, nat_lt, Option, Some, None, Result, Ok, Err}
use Rattle.std.specs.Prelude.{codes}
use Rattle.std.specs.Str.{bytes_eq}
use Rattle.spec_data.specs.Digits.{number_below, read_hex}
use Rattle.spec_data.specs.Ranges.{last_height}
use Rattle.spec_bitcoin.specs.declared.tx.Tx.{Tx}
use Rattle.spec_bitcoin.specs.Reading.{transaction_of}
use Rattle.spec_text.specs.Lines.{lines_of, words_of}
use Rattle.spec_chain.specs.declared.fault.ChainReason.TheVariants as reasons
use Rattle.spec_chain.specs.declared.fault.ChainFault.TheVariants as faults
use Rattle.spec_chain.specs.declared.reading.Confirmed.{Confirmed}
use Rattle.spec_chain.specs.declared.reading.Line.{Line}
use Rattle.spec_chain.specs.declared.reading.Line.TheVariants.{Empty, Bad, Rises, Confirms}
use Rattle.spec_chain.specs.declared.reading.Reading.{Reading}
use Rattle.spec_chain.specs.Sizes.{most_chain_bytes}

-- ---- lines

-- the height that a word spells
abbrev pub height_of : List ℕ → Option ℕ
height_of word = number_below (last_height + 1) word

-- heights don't fall
abbrev pub rises_to : ℕ → Option ℕ → Line
rises_to height None = Bad reasons.Height
rises_to height (Some next) = if nat_le height next then Rises next else Bad reasons.Height

abbrev pub if_spelled : Result Tx ℕ → Line
if_spelled (Ok tx) = Confirms tx
if_spelled (Err place) = Bad reasons.Tx

-- bytes are a transaction where all of them spell it
abbrev pub with_bytes : Option (List ℕ) → Line
with_bytes None = Bad reasons.Tx
with_bytes (Some bytes) = if_spelled (transaction_of bytes)

-- no block of height 0 has a transaction of a deal
abbrev pub tx_line : ℕ → List ℕ → Line
tx_line height word = if height == 0 then Bad reasons.Height else with_bytes (read_hex word)

-- what two words say
abbrev pub pair_says : ℕ → List ℕ → List ℕ → Line
pair_says height word value =
    if bytes_eq word (codes "height") then rises_to height (height_of value)
    else if bytes_eq word (codes "tx") then tx_line height value
    else Bad reasons.Form

-- what the words of a line say behind the height last given
abbrev pub line_says : ℕ → List (List ℕ) → Line
line_says height [] = Empty
line_says height (word ∷ value ∷ []) = pair_says height word value
line_says height _ = Bad reasons.Form

-- ---- a file

-- the lines from number n on, behind these transactions and this height
abbrev pub read_lines : List Confirmed → ℕ → ℕ → List (List ℕ) → Reading
read_lines confirmed n height [] = record { confirmed = confirmed; tip = height; fault = None }
read_lines confirmed n height (line ∷ lines) = elim (line_says height (words_of line)) [
  | Empty ↦ read_lines confirmed (n + 1) height lines
  | Bad reason ↦ record { confirmed = confirmed; tip = height; fault = Some (faults.Line n reason) }
  | Rises next ↦ read_lines confirmed (n + 1) next lines
  | Confirms tx ↦ read_lines (confirmed ++ record { line = n; height = height; tx = tx } ∷ []) (n + 1) height lines
]

-- what a file says, up to its first line that is none of a chain; the height is 0 before the first line
abbrev pub read_chain : List ℕ → Reading
read_chain text =
    if nat_lt most_chain_bytes (length text) then record { confirmed = []; tip = 0; fault = Some faults.Size }
    else read_lines [] 1 0 (lines_of text)
