-- Digits, paths and keys stand in JSON as they are.
use Rattle.std.proofs.Common.{◌≡◌, ◌≢◌, ℕ, ◌+◌, ◌/◌, ◌%◌, ◌<◌, ◌≤◌, List, [], ◌∷◌, ◌++◌, Bool, true, false, refl, sym, ap, ◌∙◌, arith, codes, append_assoc}
use Rattle.std.specs.Prelude.{nat_lt, if◌then◌else◌}
use Rattle.std.specs.List.{flat_map, list_all}
use Rattle.std.proofs.lemmas.Bool.{ne_eqb, le-ltb, ltb-true, ltb-false}
use Rattle.json.specs.Print.{escape_byte, escape}
use Rattle.serde_json.specs.Data.{string}
use Rattle.std.specs.Fmt.{decimal}
use Rattle.spec_data.specs.Digits.{is_digit, hex_digit, hex_text}
use Rattle.spec_terms.specs.declared.path.PathStep.{PathStep}
use Rattle.spec_terms.specs.declared.path.PathStep.TheVariants.{Branch as To, Part as Into}
use Rattle.spec_bitcoin.specs.Keys.{step_text, path_text}
use Rattle.spec_tool.specs.WeighText as weigh
use Rattle.theory_text.proofs.ListFacts.{and_left, and_right}
use Rattle.bm_plan.proofs.Json.Digits.{AllDigits, digit_from, decimal_digits}
use Rattle.bm_plan.specs.Seen.{seen, plain}

-- ---- bytes that have no escape

pub escape_plain : (x : ℕ) → 32 ≤ x → x ≢ 34 → x ≢ 92 → escape_byte x ≡ x ∷ []
unfolding escape_byte
escape_plain x low a b =
    let e1 = ne_eqb x 34 a in
    let e2 = ne_eqb x 92 b in
    let e3 = ne_eqb x 8 (omega arith) in
    let e4 = ne_eqb x 12 (omega arith) in
    let e5 = ne_eqb x 10 (omega arith) in
    let e6 = ne_eqb x 13 (omega arith) in
    let e7 = ne_eqb x 9 (omega arith) in
    let e8 : nat_lt x 32 ≡ false = le-ltb x 32 low in
    rw (e1, e2, e3, e4, e5, e6, e7, e8) refl

-- ---- digits

hex_digit_by : (v : ℕ) (t : Bool) → nat_lt v 10 ≡ t → escape_byte (if t then 48 + v else 87 + v) ≡ (if t then 48 + v else 87 + v) ∷ []
hex_digit_by v true e =
    let low : v < 10 = ltb-true v 10 e in
    escape_plain (48 + v) (omega arith) (omega arith) (omega arith)
hex_digit_by v false e =
    let high : 10 ≤ v = ltb-false v 10 e in
    escape_plain (87 + v) (omega arith) (omega arith) (omega arith)

escape_hex_digit : (v : ℕ) → escape_byte (hex_digit v) ≡ hex_digit v ∷ []
escape_hex_digit v = hex_digit_by v (nat_lt v 10) refl

pub escape_hex : (bytes : List ℕ) → escape (hex_text bytes) ≡ hex_text bytes
escape_hex [] = refl
escape_hex (b ∷ bytes) =
    let e = escape_hex_digit (b / 16) in
    let f = escape_hex_digit (b % 16) in
    let g = escape_hex bytes in
    λ i. e i ++ (f i ++ g i)

-- ---- paths

escape_append : (a b : List ℕ) → escape (a ++ b) ≡ escape a ++ escape b
escape_append [] b = refl
escape_append (x ∷ a) b = ap (λ (rest : List ℕ). escape_byte x ++ rest) (escape_append a b) ∙ sym (append_assoc (escape_byte x) (escape a) (escape b))

both_plain : (a b : List ℕ) → escape a ≡ a → escape b ≡ b → escape (a ++ b) ≡ a ++ b
both_plain a b e f = escape_append a b ∙ λ i. e i ++ f i

digits_plain : (digits : List ℕ) → AllDigits digits → escape digits ≡ digits
digits_plain [] h = refl
digits_plain (c ∷ digits) h =
    let r = digit_from c (and_left (is_digit c) (list_all is_digit digits) h) in
    let e = escape_plain c (omega (arith, r.0, r.1)) (omega (arith, r.0, r.1)) (omega (arith, r.0, r.1)) in
    let f = digits_plain digits (and_right (is_digit c) (list_all is_digit digits) h) in
    λ i. e i ++ f i

decimal_plain : (n : ℕ) → escape (decimal n) ≡ decimal n
decimal_plain n = digits_plain (decimal n) (decimal_digits n)

step_plain : (step : PathStep) → escape (step_text step) ≡ step_text step
unfolding escape_byte
step_plain (To n) = both_plain (codes ".") (decimal n) refl (decimal_plain n)
step_plain (Into n) = both_plain (codes "/") (decimal n) refl (decimal_plain n)

steps_plain : (path : List PathStep) → escape (flat_map step_text path) ≡ flat_map step_text path
steps_plain [] = refl
steps_plain (step ∷ path) = both_plain (step_text step) (flat_map step_text path) (step_plain step) (steps_plain path)

pub path_plain : (path : List PathStep) → escape (path_text path) ≡ path_text path
unfolding escape_byte
path_plain path = both_plain (codes "r") (flat_map step_text path) refl (steps_plain path)

-- ---- strings

pub string_plain : (text : List ℕ) → escape text ≡ text → seen (string text) ≡ plain (weigh.quoted text)
unfolding seen
string_plain text e = ap (λ (t : List ℕ). plain (34 ∷ (t ++ 34 ∷ []))) e
