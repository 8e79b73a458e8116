-- When a signature is refused for its spelling, its key or the size of its numbers, and what is left to be told else.
use Rattle.std.proofs.Common.{◌≡◌, ℕ, ◌^◌, ◌≤◌, List, [], ◌∷◌, length, Bool, true, false, Option, Some, None, refl, ap, ◌∙◌, arith}
use Rattle.std.specs.Prelude.{◌&&◌, if◌then◌else◌, nat_lt, nat_le}
use Rattle.std.specs.Str.{bytes_eq}
use Rattle.std.proofs.lemmas.Bool.Decides.{nat_tests}
use Rattle.spec_curve.specs.Field.{group_order, times, inverse}
use Rattle.spec_curve.specs.Key.{number_of, point}
use Rattle.spec_curve.specs.Point.{Point}
use Rattle.spec_curve.specs.Signature.{half_order, is_number, signature_of, r_bytes, s_bytes, is_spelled, Numbers, numbers_of, sign, is_signature}
use Rattle.spec_curve.specs.Verify.{has_first, sum_of, verifies}

-- ---- numbers of more than 256 bits

out_of_range : (k : ℕ) → 2 ^ 256 ≤ k → (nat_lt 0 k && nat_lt k group_order) ≡ false
out_of_range k h = grind (arith, nat_tests, h)

first_fails : (a b : Bool) → a ≡ false → (a && b) ≡ false
first_fails true b e = cc
first_fails false b e = refl

second_fails : (a b c : Bool) → b ≡ false → (a && (b && c)) ≡ false
second_fails true b c e = first_fails b c e
second_fails false b c e = refl

pub large_r_fails : (z r s : ℕ) (key : Point) → 2 ^ 256 ≤ r → verifies z r s key ≡ false
unfolding verifies
large_r_fails z r s key h =
    let n : ℕ = group_order in
    let w : ℕ = inverse n s in
    first_fails (nat_lt 0 r && nat_lt r n) ((nat_lt 0 s && nat_lt s n) && has_first r (sum_of (times n z w) (times n r w) key)) (out_of_range r h)

pub large_s_fails : (z r s : ℕ) (key : Point) → 2 ^ 256 ≤ s → verifies z r s key ≡ false
unfolding verifies
large_s_fails z r s key h =
    let n : ℕ = group_order in
    let w : ℕ = inverse n s in
    second_fails (nat_lt 0 r && nat_lt r n) (nat_lt 0 s && nat_lt s n) (has_first r (sum_of (times n z w) (times n r w) key)) (out_of_range s h)

-- ---- spelling

number_length : (bytes : List ℕ) → is_number bytes ≡ true → length bytes ≤ 33
number_length [] e = omega arith
number_length (b ∷ []) e = omega arith
number_length (b ∷ (c ∷ bytes)) e = grind (arith, nat_tests, e)

of_four : (a b c d : Bool) → (a && ((b && c) && d)) ≡ true → (b ≡ true) × (c ≡ true)
of_four true true true d e = (refl, refl)
of_four true true false d e = cc
of_four true false c d e = cc
of_four false b c d e = cc

parts : (signature : List ℕ) → is_spelled signature ≡ true → (is_number (r_bytes signature) ≡ true) × (is_number (s_bytes signature) ≡ true)
parts signature e =
    of_four (bytes_eq signature (signature_of (r_bytes signature) (s_bytes signature))) (is_number (r_bytes signature)) (is_number (s_bytes signature))
    (nat_le (number_of (s_bytes signature)) half_order) e

pub r_length : (signature : List ℕ) → is_spelled signature ≡ true → length (r_bytes signature) ≤ 33
r_length signature e = number_length (r_bytes signature) (parts signature e).0

pub s_length : (signature : List ℕ) → is_spelled signature ≡ true → length (s_bytes signature) ≤ 33
s_length signature e = number_length (s_bytes signature) (parts signature e).1

-- ---- the verdict

nothing : (b : Bool) (m : Numbers) → b ≡ false → (if b then Some m else None) ≡ None
nothing true m e = cc
nothing false m e = refl

something : (b : Bool) (m : Numbers) → b ≡ true → (if b then Some m else None) ≡ Some m
something true m e = refl
something false m e = cc

sign_nothing : (q : Option Point) (z : ℕ) → sign q z None ≡ false
sign_nothing (Some q) z = refl
sign_nothing None z = refl

pub unspelled_fails : (key digest signature : List ℕ) → is_spelled signature ≡ false → is_signature key digest signature ≡ false
unfolding is_signature
unspelled_fails key digest signature e =
    ap (λ m. sign (point key) (number_of digest) m)
    (nothing (is_spelled signature) (record { r = number_of (r_bytes signature); s = number_of (s_bytes signature) }) e)
    ∙ sign_nothing (point key) (number_of digest)

pub keyless_fails : (key digest signature : List ℕ) → point key ≡ None → is_signature key digest signature ≡ false
unfolding is_signature
keyless_fails key digest signature e = ap (λ q. sign q (number_of digest) (numbers_of signature)) e

pub spelled_verifies : (key digest signature : List ℕ) (q : Point) → is_spelled signature ≡ true → point key ≡ Some q
    → is_signature key digest signature ≡ verifies (number_of digest) (number_of (r_bytes signature)) (number_of (s_bytes signature)) q
unfolding is_signature
spelled_verifies key digest signature q e h =
    λ i. sign (h i) (number_of digest) (something (is_spelled signature) (record { r = number_of (r_bytes signature); s = number_of (s_bytes signature) }) e i)
