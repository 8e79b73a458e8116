-- What is claimed of what was read and is written again; of this project's subset of BIP 174.
use Rattle.std.specs.Prelude.{◌≡◌, ℕ, ◌<◌, ◌^◌, List, length, Some}
use Rattle.spec_bitcoin.specs.Spelling.{IsBytes}
use Rattle.spec_tool.specs.Psbt.{Psbt}
use Rattle.spec_tool.specs.PsbtBytes.{psbt_of, psbt_bytes}
use Rattle.theory_psbt.specs.Fitting.{IsFitting}

-- what is read can be written
abbrev pub ReadIsFitting : Type 0
ReadIsFitting = (bytes : List ℕ) (p : Psbt) → IsBytes bytes → psbt_of bytes ≡ Some p → IsFitting p

-- and what is written of it is read as the same
abbrev pub ReadIsReadAgain : Type 0
ReadIsReadAgain = (bytes : List ℕ) (p : Psbt) → IsBytes bytes → psbt_of bytes ≡ Some p → length (psbt_bytes p) < 2 ^ 64
    → psbt_of (psbt_bytes p) ≡ Some p
