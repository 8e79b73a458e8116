-- The shape of signatures that nodes relay: strict DER by BIP 66, with the hash type ALL behind it and the low S of BIP 146.
use Rattle.std.specs.Prelude.{◌≡◌, ℕ, ◌+◌, ◌*◌, List, [], ◌∷◌, ◌++◌, length, take, drop, Bool, true, false, not, ◌&&◌, ◌||◌, ◌==◌}
use Rattle.std.specs.Prelude.{nat_le, nat_lt, slice_index}
use Rattle.std.specs.Str.{bytes_eq}

-- half the order of the curve secp256k1, the greatest S
abbrev pub half_order : ℕ
half_order = 0x7fffffffffffffffffffffffffffffff5d576e7357a4501ddfe92f46681b20a0

-- ---- numbers of a signature

-- the number that bytes spell behind this one, the highest byte first
abbrev pub number_from : ℕ → List ℕ → ℕ
number_from n [] = n
number_from n (b ∷ bytes) = number_from (n * 256 + b) bytes

-- the sign bit is 0, and no byte can be left out in front
abbrev pub is_natural : List ℕ → Bool
is_natural [] = false
is_natural (b ∷ []) = nat_lt b 128
is_natural (b ∷ (c ∷ bytes)) = nat_lt b 128 && (not (b == 0) || nat_le 128 c)

-- a natural number in its shortest spelling, of at most 33 bytes
abbrev pub is_number : List ℕ → Bool
is_number bytes = is_natural bytes && nat_le (length bytes) 33

abbrev pub is_low : List ℕ → Bool
is_low bytes = nat_le (number_from 0 bytes) half_order

-- ---- signatures

-- the signature of R and S, with the byte of the hash type ALL
abbrev pub shaped : List ℕ → List ℕ → List ℕ
shaped r s = 0x30 ∷ (length r + length s + 4) ∷ 2 ∷ length r ∷ (r ++ 2 ∷ length s ∷ (s ++ 1 ∷ []))

-- it is the signature of some R and S
pub record HasShape (signature : List ℕ) : Type 0 where
  pub r : List ℕ
  pub s : List ℕ
  pub same : signature ≡ shaped r s
  pub is_r : is_number r ≡ true
  pub is_s : is_number s ≡ true
  pub low : is_low s ≡ true

-- the R and the S that a signature's counts delimit
abbrev pub r_of : List ℕ → List ℕ
r_of signature = take (slice_index signature 3) (drop 4 signature)

abbrev pub s_of : List ℕ → List ℕ
s_of signature = take (slice_index (drop (length (r_of signature) + 5) signature) 0) (drop (length (r_of signature) + 6) signature)

-- whether a signature has the shape
abbrev pub is_strict : List ℕ → Bool
is_strict signature =
    bytes_eq signature (shaped (r_of signature) (s_of signature))
    && (is_number (r_of signature) && (is_number (s_of signature) && is_low (s_of signature)))
