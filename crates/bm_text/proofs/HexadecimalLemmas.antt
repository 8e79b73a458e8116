-- Hexadecimal digits: the words of `spec_text` are those of the crate `hex`.
use Rattle.std.proofs.Common.{◌≡◌, ℕ, zero, suc, ◌+◌, ◌*◌, ◌/◌, ◌%◌, ◌<◌, List, [], ◌∷◌, length, Bool, true, false, ◌&&◌, ◌==◌, cond, Option, Some, None, Result, Ok, Err, refl, sym, ap, ◌∙◌, arith}
use Rattle.std.specs.Prelude.{slice_index}
use Rattle.std.proofs.lemmas.Bool.{and_parts, cases_lt, eqb-true, ne_eqb}
use Rattle.std.proofs.Common.{inl, inr}
use Rattle.bm_text.specs.declared.hexadecimal.HexError.{HexError}
use Rattle.bm_text.specs.declared.hexadecimal.HexError.TheVariants.{Bad}
use Rattle.hex.specs.declared.error.FromHexError.{FromHexError}
use Rattle.hex.specs.declared.error.FromHexError.TheVariants.{OddLength}
use Rattle.hex.specs.Hex as hex
use Rattle.hex.specs.Hex.{IsBytes, decode_of, decode_pairs, digit_or_error, pair_value, encode_lower, encode_with, lower_digits, ◌>>=◌}
use Rattle.hex.proofs.HexLemmas.{decode_of-encode_lower}
use Rattle.spec_data.specs.Digits.{hex_digit, hex_text, hex_digit_value, hex_pair, hex_bytes, onto, read_hex}

-- the value of a result, if it has one
abbrev pub some_of : {A : Type 0} → Result A FromHexError → Option A
some_of (Ok x) = Some x
some_of (Err e) = None

-- ---- from digits to bytes

value_is : (c : ℕ) → hex.hex_digit_value c ≡ hex_digit_value c
value_is c = grind arith

pair_gives : (c d i : ℕ) (o p : Option ℕ) → some_of (digit_or_error c i o >>= (λ h. digit_or_error d (i + 1) p >>= (λ l. Ok (h * 16 + l)))) ≡ hex_pair o p
pair_gives c d i (Some h) (Some l) = refl
pair_gives c d i (Some h) None = refl
pair_gives c d i None p = refl

pair_is : (c d i : ℕ) → some_of (pair_value c d i) ≡ hex_pair (hex_digit_value c) (hex_digit_value d)
pair_is c d i = pair_gives c d i (hex.hex_digit_value c) (hex.hex_digit_value d) ∙ ap (λ o. hex_pair o (hex.hex_digit_value d)) (value_is c)
    ∙ ap (hex_pair (hex_digit_value c)) (value_is d)

bytes_give : (r : Result ℕ FromHexError) (s : Result (List ℕ) FromHexError) → some_of (r >>= (λ b. s >>= (λ bs. Ok (b ∷ bs)))) ≡ onto (some_of r) (some_of s)
bytes_give (Ok b) (Ok bs) = refl
bytes_give (Ok b) (Err e) = refl
bytes_give (Err e) s = refl

pairs_are : (i : ℕ) (word : List ℕ) → some_of (decode_pairs i word) ≡ hex_bytes word
unfolding decode_pairs
pairs_are i [] = refl
pairs_are i (c ∷ []) = refl
pairs_are i (c ∷ d ∷ word) =
    bytes_give (pair_value c d i) (decode_pairs (i + 2) word)
    ∙ ap (λ o. onto o (some_of (decode_pairs (i + 2) word))) (pair_is c d i)
    ∙ ap (onto (hex_pair (hex_digit_value c) (hex_digit_value d))) (pairs_are (i + 2) word)

onto_none : (o : Option ℕ) → onto o None ≡ None
onto_none (Some x) = refl
onto_none None = refl

hex_bytes-odd : (word : List ℕ) → length word % 2 ≡ 1 → hex_bytes word ≡ None
hex_bytes-odd [] h = absurd (omega arith)
hex_bytes-odd (c ∷ []) h = refl
hex_bytes-odd (c ∷ d ∷ word) h =
    ap (onto (hex_pair (hex_digit_value c) (hex_digit_value d))) (hex_bytes-odd word (omega arith))
    ∙ onto_none (hex_pair (hex_digit_value c) (hex_digit_value d))

decode_is : (word : List ℕ) → some_of (decode_of word) ≡ hex_bytes word
decode_is word =
    elim (length word % 2 == 1) as (λ b. length word % 2 == 1 ≡ b → some_of (cond b (Err OddLength) (decode_pairs 0 word)) ≡ hex_bytes word) [
      | true ↦ λ t. sym (hex_bytes-odd word (eqb-true (length word % 2) 1 t))
      | false ↦ λ t. pairs_are 0 word
    ] refl

-- a word of at least one byte reads as the crate decodes it
pub read_hex-decode : (word : List ℕ) → (length word == 0) ≡ false → read_hex word ≡ some_of (decode_of word)
read_hex-decode [] some = cc
read_hex-decode (c ∷ word) some = sym (decode_is (c ∷ word))

-- the error that was answered
pub bad_is : {A : Type 0} (result : Result A HexError) (e : HexError) → result ≡ Err e → result ≡ Err Bad → e ≡ Bad
bad_is result e is bad = cc

-- ---- from bytes to digits

abbrev same_below : ℕ → Bool
same_below zero = true
same_below (suc n) = (slice_index lower_digits n == hex_digit n) && same_below n

same_at : (n d : ℕ) → same_below n ≡ true → d < n → slice_index lower_digits d ≡ hex_digit d
same_at zero d h lt = absurd (omega arith)
same_at (suc n) d h lt =
    let parts = and_parts (slice_index lower_digits n == hex_digit n) (same_below n) h in
    elim (cases_lt d n) [
      | inl less ↦ same_at n d parts.1 less
      | inr top ↦
          let e : d ≡ n = omega arith in
          rw e (eqb-true (slice_index lower_digits n) (hex_digit n) parts.0)
    ]

digit_is : (d : ℕ) → d < 16 → slice_index lower_digits d ≡ hex_digit d
digit_is d lt = same_at 16 d refl lt

pub encode_lower-hex_text : (bytes : List ℕ) → IsBytes bytes → encode_lower bytes ≡ hex_text bytes
unfolding encode_with
encode_lower-hex_text [] h = refl
encode_lower-hex_text (b ∷ rest) h =
    let small : b < 256 = h 0 in
    rw (digit_is (b / 16) (omega arith), digit_is (b % 16) (omega arith))
    (ap (λ r. hex_digit (b / 16) ∷ hex_digit (b % 16) ∷ r) (encode_lower-hex_text rest (λ k. h (suc k))))

nonempty_text : (bytes : List ℕ) → 0 < length bytes → (length (hex_text bytes) == 0) ≡ false
nonempty_text [] some = absurd (omega arith)
nonempty_text (b ∷ rest) some = ne_eqb (length (hex_text (b ∷ rest))) 0 (λ e. omega arith)

-- what is written of bytes reads as those bytes
pub read_hex-hex_text : (bytes : List ℕ) → IsBytes bytes → 0 < length bytes → read_hex (hex_text bytes) ≡ Some bytes
read_hex-hex_text bytes h some =
    read_hex-decode (hex_text bytes) (nonempty_text bytes some)
    ∙ ap some_of (ap decode_of (sym (encode_lower-hex_text bytes h)) ∙ decode_of-encode_lower bytes h)
