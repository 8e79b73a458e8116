-- Which partially signed transaction a file holds, and why another is refused, by the spelling of BIP 174 and the base64 of RFC 4648.
use Rattle.std.specs.Prelude.{◌≡◌, ℕ, List, ◌↔◌, Some, None, Ok, Err, codes}
use Rattle.spec_bitcoin.specs.Spelling.{IsBytes}
use Rattle.spec_tool.specs.Base64.{base64_text}
use Rattle.spec_tool.specs.Psbt.{Psbt, Spells}
use Rattle.spec_tool.specs.PsbtText.{without_feed, psbt_in}
use Rattle.spec_tool.specs.Reads.{Text}

-- the text, but for a line feed at its end, is the base64 of these bytes
pub record IsCoded (text bytes : List ℕ) : Type 0 where
  pub each : IsBytes bytes
  pub same : without_feed text ≡ base64_text bytes

-- it is that of bytes that spell this
pub record IsPsbtFile (text : List ℕ) (p : Psbt) : Type 0 where
  pub bytes : List ℕ
  pub coded : IsCoded text bytes
  pub spelled : Spells bytes p

-- so is what was read of a file that isn't too long
abbrev pub HoldsPsbt : Text → Psbt → Type 0
HoldsPsbt None p = ⊥
HoldsPsbt (Some text) p = IsPsbtFile text p

pub data PsbtRefusal : Type 0 where
  -- the file has more bytes than it may have
  too_long : PsbtRefusal
  -- it isn't the base64 of any bytes
  uncoded : PsbtRefusal
  -- the bytes spell no partially signed transaction
  unspelled : PsbtRefusal

-- why a file is refused; of one that is too long nothing was read
abbrev pub IsRefusedPsbt : Text → PsbtRefusal → Type 0
IsRefusedPsbt None too_long = Unit {0}
IsRefusedPsbt None _ = ⊥
IsRefusedPsbt (Some text) too_long = ⊥
IsRefusedPsbt (Some text) uncoded = (bytes : List ℕ) → IsCoded text bytes → ⊥
IsRefusedPsbt (Some text) unspelled = (bytes : List ℕ) × IsCoded text bytes × ((p : Psbt) → Spells bytes p → ⊥)

-- the same, as it is printed
abbrev pub psbt_refusal_text : PsbtRefusal → List ℕ
psbt_refusal_text too_long = codes "size"
psbt_refusal_text uncoded = codes "base64"
psbt_refusal_text unspelled = codes "form"

-- ---- what is claimed

-- of every file
pub record PsbtFilesAreRead : Type 0 where
  -- a file is taken for what it holds, and is refused for just that
  pub read : (text : Text) (p : Psbt) → (psbt_in text ≡ Ok p) ↔ HoldsPsbt text p
  pub refused : (text : Text) (why : List ℕ)
      → (psbt_in text ≡ Err why) ↔ ((r : PsbtRefusal) × IsRefusedPsbt text r × (why ≡ psbt_refusal_text r))
