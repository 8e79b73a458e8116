-- The bytes that hexadecimal digits spell.
use Rattle.std.proofs.Common.{◌≡◌, ℕ, ◌+◌, ◌-◌, ◌*◌, ◌<◌, Bool, true, false, List, [], ◌∷◌, length, Option, Some, None, refl, subst, arith}
use Rattle.std.specs.Prelude.{◌&&◌, if◌then◌else◌, nat_le}
use Rattle.std.proofs.lemmas.Bool.Decides.{nat_tests}
use Rattle.spec_bitcoin.specs.Spelling.{IsBytes}
use Rattle.theory_bitcoin.proofs.Exact.{bytes_cons, bytes_none}
use Rattle.spec_data.specs.Digits.{is_digit, hex_digit_value, hex_pair, onto, hex_bytes, read_hex}
use Rattle.theory_text.proofs.Options.{some, some_is, none_some}

digit_by : (t : Bool) (n : ℕ) (later : Option ℕ) (v : ℕ) → (if t then some n else later) ≡ some v → (t ≡ true → n < 16) → (later ≡ some v → v < 16) → v < 16
digit_by true n later v h f g = omega (arith, some_is n v h, f refl)
digit_by false n later v h f g = g h

digit_top : (c : ℕ) → is_digit c ≡ true → c - 48 < 16
digit_top c h = grind (arith, nat_tests)

lower_top : (c : ℕ) → (nat_le 97 c && nat_le c 102) ≡ true → c - 87 < 16
lower_top c h = grind (arith, nat_tests)

upper_top : (c : ℕ) → (nat_le 65 c && nat_le c 70) ≡ true → c - 55 < 16
upper_top c h = grind (arith, nat_tests)

digit_small : (c v : ℕ) → hex_digit_value c ≡ Some v → v < 16
digit_small c v h =
    digit_by (is_digit c) (c - 48) _ v h (digit_top c) (λ h1.
    digit_by (nat_le 97 c && nat_le c 102) (c - 87) _ v h1 (lower_top c) (λ h2.
    digit_by (nat_le 65 c && nat_le c 70) (c - 55) _ v h2 (upper_top c) (λ h3. absurd (none_some v h3))))

pair_small : (a b : Option ℕ) (v : ℕ) → hex_pair a b ≡ Some v → ((n : ℕ) → a ≡ Some n → n < 16) → ((n : ℕ) → b ≡ Some n → n < 16) → v < 256
pair_small (Some high) (Some low) v h f g = omega (arith, some_is (high * 16 + low) v h, f high refl, g low refl)
pair_small (Some high) None v h f g = absurd (none_some v h)
pair_small None b v h f g = absurd (none_some v h)

-- so many bytes of so many digits
pub record IsHex (digits said : List ℕ) : Type 0 where
  pub bytes : IsBytes said
  pub size : 2 * length said ≡ length digits

onto_hex : (x : Option ℕ) (xs : Option (List ℕ)) (digits bytes : List ℕ) (c d : ℕ) → onto x xs ≡ Some bytes
    → ((n : ℕ) → x ≡ Some n → n < 256) → ((ys : List ℕ) → xs ≡ Some ys → IsHex digits ys) → IsHex (c ∷ d ∷ digits) bytes
onto_hex (Some n) (Some ys) digits bytes c d h f g =
    let t = g ys refl in
    subst (IsHex (c ∷ d ∷ digits)) (some_is (n ∷ ys) bytes h) (record { bytes = bytes_cons n ys (f n refl) t.bytes; size = omega (arith, t.size) })
onto_hex (Some n) None digits bytes c d h f g = absurd (none_some bytes h)
onto_hex None xs digits bytes c d h f g = absurd (none_some bytes h)

pub hex_is : (digits bytes : List ℕ) → hex_bytes digits ≡ Some bytes → IsHex digits bytes
hex_is [] bytes h = subst (IsHex []) (some_is [] bytes h) (record { bytes = bytes_none; size = omega arith })
hex_is (c ∷ []) bytes h = absurd (none_some bytes h)
hex_is (c ∷ d ∷ cs) bytes h =
    onto_hex (hex_pair (hex_digit_value c) (hex_digit_value d)) (hex_bytes cs) cs bytes c d h
    (λ n e. pair_small (hex_digit_value c) (hex_digit_value d) n e (digit_small c) (digit_small d)) (hex_is cs)

-- what a word spells is bytes, two digits for each
pub read_hex_is : (word bytes : List ℕ) → read_hex word ≡ Some bytes → IsHex word bytes
read_hex_is [] bytes h = absurd (none_some bytes h)
read_hex_is (c ∷ cs) bytes h = hex_is (c ∷ cs) bytes h
