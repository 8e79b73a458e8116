-- A signature as bytes: strict DER of R and S (BIP 66), the byte 01 of the hash type ALL behind it, and an S of at most half the order (BIP 146).
use Rattle.std.specs.Prelude.{ℕ, ◌+◌, List, [], ◌∷◌, ◌++◌, length, take, drop, Bool, false, not, ◌&&◌, ◌||◌, ◌==◌, if◌then◌else◌}
use Rattle.std.specs.Prelude.{nat_le, nat_lt, slice_index, Option, Some, None}
use Rattle.std.specs.Str.{bytes_eq}
use Rattle.spec_curve.specs.Point.{Point}
use Rattle.spec_curve.specs.Key.{number_of, point}
use Rattle.spec_curve.specs.Verify.{verifies}

-- half the order of the group, the greatest S
abbrev pub half_order : ℕ
half_order = 0x7FFFFFFFFFFFFFFFFFFFFFFFFFFFFFFF5D576E7357A4501DDFE92F46681B20A0

-- a natural number in its shortest spelling with a sign bit of 0, of at most 33 bytes
abbrev pub is_number : List ℕ → Bool
is_number [] = false
is_number (b ∷ []) = nat_lt b 128
is_number (b ∷ (c ∷ bytes)) = nat_lt b 128 && ((not (b == 0) || nat_le 128 c) && nat_le (length bytes) 31)

-- the signature of the bytes of R and S
abbrev pub signature_of : List ℕ → List ℕ → List ℕ
signature_of r s = 0x30 ∷ (length r + length s + 4) ∷ 2 ∷ length r ∷ (r ++ 2 ∷ length s ∷ (s ++ 1 ∷ []))

-- the bytes of R and of S that a signature's counts delimit
abbrev pub r_bytes : List ℕ → List ℕ
r_bytes signature = take (slice_index signature 3) (drop 4 signature)

abbrev pub s_bytes : List ℕ → List ℕ
s_bytes signature =
    take (slice_index (drop (length (r_bytes signature) + 5) signature) 0) (drop (length (r_bytes signature) + 6) signature)

-- whether bytes spell an R and an S, which is at most half the order
abbrev pub is_spelled : List ℕ → Bool
is_spelled signature =
    bytes_eq signature (signature_of (r_bytes signature) (s_bytes signature))
    && ((is_number (r_bytes signature) && is_number (s_bytes signature)) && nat_le (number_of (s_bytes signature)) half_order)

-- R and S
pub record Numbers : Type 0 where
  pub r : ℕ
  pub s : ℕ

-- the R and the S that bytes spell
abbrev pub numbers_of : List ℕ → Option Numbers
numbers_of signature =
    if is_spelled signature then Some (record { r = number_of (r_bytes signature); s = number_of (s_bytes signature) }) else None

-- whether these numbers sign the digest under this point, where there are both
abbrev pub sign : Option Point → ℕ → Option Numbers → Bool
sign (Some q) z (Some m) = verifies z m.r m.s q
sign (Some q) z None = false
sign None z m = false

-- whether the bytes sign the digest (32 bytes) under the key
unfoldable pub is_signature : List ℕ → List ℕ → List ℕ → Bool
is_signature key digest signature = sign (point key) (number_of digest) (numbers_of signature)
