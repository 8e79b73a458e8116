-- Strings of bytes, and hash functions whose digests are strings of 32 bytes, as those of SHA-256 are by FIPS 180-4.
use Rattle.std.specs.Prelude.{◌≡◌, ℕ, ◌<◌, List, length, slice_index}

-- each element is a byte
abbrev pub IsBytes : List ℕ → Type 0
IsBytes bytes = (i : ℕ) → slice_index bytes i < 256

-- digests have 32 bytes
abbrev pub IsHash : (List ℕ → List ℕ) → Type 0
IsHash hash = (message : List ℕ) → length (hash message) ≡ 32

-- each digest is of 32 bytes
pub record HashesBytes (hash : List ℕ → List ℕ) : Type 0 where
  pub size : IsHash hash
  pub bytes : (message : List ℕ) → IsBytes (hash message)
