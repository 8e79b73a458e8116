-- What is claimed of the bytes of partially signed transactions; of this project's subset of BIP 174.
use Rattle.std.specs.Prelude.{◌≡◌, ℕ, ◌<◌, ◌^◌, List, length, true, Some}
use Rattle.spec_bitcoin.specs.Spelling.{IsBytes}
use Rattle.spec_tool.specs.Psbt.{Psbt, Spells, is_psbt}
use Rattle.spec_tool.specs.PsbtBytes.{psbt_of, psbt_bytes}
use Rattle.theory_psbt.specs.Fitting.{IsFitting}

-- what is spelled is read
abbrev pub SpelledIsRead : Type 0
SpelledIsRead = (bytes : List ℕ) (p : Psbt) → Spells bytes p → psbt_of bytes ≡ Some p

-- what is read is spelled
abbrev pub ReadIsSpelled : Type 0
ReadIsSpelled = (bytes : List ℕ) (p : Psbt) → IsBytes bytes → psbt_of bytes ≡ Some p → Spells bytes p

-- bytes spell at most one thing
abbrev pub OnePsbt : Type 0
OnePsbt = (bytes : List ℕ) (p q : Psbt) → Spells bytes p → Spells bytes q → p ≡ q

-- what bytes spell has an input, no script and no witness in its transaction, and signatures that ascend by their keys
abbrev pub SpelledIsPsbt : Type 0
SpelledIsPsbt = (bytes : List ℕ) (p : Psbt) → Spells bytes p → is_psbt p ≡ true

-- what is written spells it
abbrev pub WrittenIsSpelled : Type 0
WrittenIsSpelled = (p : Psbt) → IsFitting p → length (psbt_bytes p) < 2 ^ 64 → Spells (psbt_bytes p) p

-- what is written is read again
abbrev pub WrittenIsRead : Type 0
WrittenIsRead = (p : Psbt) → IsFitting p → length (psbt_bytes p) < 2 ^ 64 → psbt_of (psbt_bytes p) ≡ Some p
