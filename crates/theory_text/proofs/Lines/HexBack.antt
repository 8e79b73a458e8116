-- Bytes are read again from the digits that they are written in.
use Rattle.std.proofs.Common.{◌≡◌, ℕ, suc, ◌+◌, ◌-◌, ◌*◌, ◌/◌, ◌%◌, ◌<◌, ◌≤◌, Bool, true, false, List, [], ◌∷◌, length, Some, refl, ap, arith}
use Rattle.std.specs.Prelude.{◌==◌, ◌&&◌, if◌then◌else◌, nat_le, nat_lt}
use Rattle.std.proofs.lemmas.Bool.Decides.{nat_tests}
use Rattle.spec_bitcoin.specs.Spelling.{IsBytes}
use Rattle.spec_data.specs.Digits.{is_digit, hex_digit, hex_text, hex_digit_value, hex_pair, hex_bytes, read_hex}
use Rattle.spec_text.specs.Lines.{is_space}
use Rattle.theory_text.proofs.Options.{some, none_some}
use Rattle.theory_text.proofs.Lines.Hex.{IsHex, hex_is}
use Rattle.theory_text.proofs.Lines.Separated.{Lacks}

digit_back : (v : ℕ) → v < 16 → hex_digit_value (hex_digit v) ≡ Some v
digit_back v h = by_ten (nat_lt v 10) v refl h
  where
    low : (v : ℕ) → v < 10 → is_digit (48 + v) ≡ true
    low v h = grind (arith, nat_tests)

    high : (v : ℕ) → 10 ≤ v → is_digit (87 + v) ≡ false
    high v h = grind (arith, nat_tests)

    letter : (v : ℕ) → 10 ≤ v → v < 16 → (nat_le 97 (87 + v) && nat_le (87 + v) 102) ≡ true
    letter v h k = grind (arith, nat_tests)

    by_ten : (t : Bool) (v : ℕ) → nat_lt v 10 ≡ t → v < 16 → hex_digit_value (if t then 48 + v else 87 + v) ≡ Some v
    by_ten true v e h = let less : v < 10 = grind (arith, nat_tests) in rw (low v less) (ap some (let n : 48 + v - 48 ≡ v = omega arith in n))
    by_ten false v e h =
        let more : 10 ≤ v = grind (arith, nat_tests) in rw (high v more, letter v more h) (ap some (let n : 87 + v - 87 ≡ v = omega arith in n))

pair_back : (b : ℕ) → b < 256 → hex_pair (hex_digit_value (hex_digit (b / 16))) (hex_digit_value (hex_digit (b % 16))) ≡ Some b
pair_back b h =
    let high : b / 16 < 16 = omega arith in
    let low : b % 16 < 16 = omega arith in
    let sum : b / 16 * 16 + b % 16 ≡ b = omega arith in
    rw (digit_back (b / 16) high, digit_back (b % 16) low) (ap some sum)

-- bytes are read again from the digits that they are written in
pub hex_back : (bytes : List ℕ) → IsBytes bytes → hex_bytes (hex_text bytes) ≡ Some bytes
hex_back [] h = refl
hex_back (b ∷ bytes) h = rw (pair_back b (h 0), hex_back bytes (λ i. h (suc i))) refl

hex_length : (bytes : List ℕ) → length (hex_text bytes) ≡ 2 * length bytes
hex_length [] = refl
hex_length (b ∷ bytes) = omega (arith, hex_length bytes)

-- a word of hexadecimal digits is as long as the canonical one, from which the same is read
pub record HexBack (word bytes : List ℕ) : Type 0 where
  pub read : read_hex (hex_text bytes) ≡ Some bytes
  pub size : length (hex_text bytes) ≡ length word

some_back : (c : ℕ) (cs bytes : List ℕ) → IsHex (c ∷ cs) bytes → HexBack (c ∷ cs) bytes
some_back c cs [] h = absurd (omega (arith, h.size))
some_back c cs (b ∷ bytes) h = record { read = hex_back (b ∷ bytes) h.bytes; size = omega (arith, hex_length (b ∷ bytes), h.size) }

pub read_hex_back : (word bytes : List ℕ) → read_hex word ≡ Some bytes → HexBack word bytes
read_hex_back [] bytes h = absurd (none_some bytes h)
read_hex_back (c ∷ cs) bytes h = some_back c cs bytes (hex_is (c ∷ cs) bytes h)

-- ---- no other byte is a hexadecimal digit

-- whether a test is false at each byte with which digits are written
abbrev pub SparesDigits : (ℕ → Bool) → Type 0
SparesDigits test = (v : ℕ) → v < 16 → test (hex_digit v) ≡ false

pub hex_lacks : (test : ℕ → Bool) (bytes : List ℕ) → SparesDigits test → IsBytes bytes → Lacks test (hex_text bytes)
hex_lacks test [] spares h = tt
hex_lacks test (b ∷ bytes) spares h =
    let small = h 0 in
    (spares (b / 16) (omega (arith, small)), (spares (b % 16) (omega arith), hex_lacks test bytes spares (λ i. h (suc i))))

pub spares_by : (test : ℕ → Bool) → ((n : ℕ) → n < 10 → test (48 + n) ≡ false) → ((n : ℕ) → 10 ≤ n → n < 16 → test (87 + n) ≡ false) → SparesDigits test
spares_by test low high v h = by_ten (nat_lt v 10) refl
  where
    by_ten : (t : Bool) → nat_lt v 10 ≡ t → test (if t then 48 + v else 87 + v) ≡ false
    by_ten true e = low v (grind (arith, nat_tests))
    by_ten false e = high v (grind (arith, nat_tests)) h

pub no_space : SparesDigits is_space
no_space = spares_by is_space (λ n h. grind (arith, nat_tests)) (λ n h k. grind (arith, nat_tests))

pub no_equal_sign : SparesDigits (λ b. b == 61)
no_equal_sign = spares_by (λ b. b == 61) (λ n h. grind (arith, nat_tests)) (λ n h k. grind (arith, nat_tests))
