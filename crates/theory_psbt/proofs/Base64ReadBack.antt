-- What is written in Base64 is read as the same bytes.
use Rattle.std.proofs.Common.{◌≡◌, ℕ, suc, ◌+◌, ◌*◌, ◌/◌, ◌%◌, ◌<◌, List, [], ◌∷◌, ◌++◌, Bool, false, Option, Some, refl, sym, ap, ◌∙◌, arith, append-nil}
use Rattle.std.specs.Prelude.{◌==◌, if◌then◌else◌}
use Rattle.spec_data.specs.Hashes.{IsBytes}
use Rattle.spec_text.specs.Words.{◌>>=◌, given}
use Rattle.spec_tool.specs.Base64.{padding, symbol_of, base64_text, first_byte, second_byte, third_byte, whole_group, two_group, one_group, last_group, joined, base64_bytes}
use Rattle.theory_psbt.proofs.Base64Symbols.{some, some_is, value_of_symbol, no_padding}

-- ---- groups by the values of their symbols

abbrev pub whole_by : Option ℕ → Option ℕ → Option ℕ → Option ℕ → Option (List ℕ)
whole_by a b c d = do
  v ← a
  w ← b
  x ← c
  y ← d
  Some (first_byte v w ∷ second_byte w x ∷ third_byte x y ∷ [])

abbrev pub two_by : Option ℕ → Option ℕ → Option ℕ → Option (List ℕ)
two_by a b c = do
  v ← a
  w ← b
  x ← c
  given (x % 4 == 0) (first_byte v w ∷ second_byte w x ∷ [])

abbrev pub one_by : Option ℕ → Option ℕ → Option (List ℕ)
one_by a b = do
  v ← a
  w ← b
  given (w % 16 == 0) (first_byte v w ∷ [])

whole_read : (v w x y : ℕ) → v < 64 → w < 64 → x < 64 → y < 64
    → whole_group (symbol_of v) (symbol_of w) (symbol_of x) (symbol_of y) ≡ some (first_byte v w ∷ second_byte w x ∷ third_byte x y ∷ [])
whole_read v w x y a b c d =
    let a = value_of_symbol v a in
    let b = value_of_symbol w b in
    let c = value_of_symbol x c in
    let d = value_of_symbol y d in
    λ i. whole_by (a i) (b i) (c i) (d i)

two_read : (v w x : ℕ) → v < 64 → w < 64 → x < 64 → x % 4 ≡ 0
    → two_group (symbol_of v) (symbol_of w) (symbol_of x) ≡ some (first_byte v w ∷ second_byte w x ∷ [])
two_read v w x a b c whole =
    let a = value_of_symbol v a in
    let b = value_of_symbol w b in
    let c = value_of_symbol x c in
    (λ i. two_by (a i) (b i) (c i)) ∙ ap (λ (n : ℕ). given (n == 0) (first_byte v w ∷ second_byte w x ∷ [])) whole

one_read : (v w : ℕ) → v < 64 → w < 64 → w % 16 ≡ 0 → one_group (symbol_of v) (symbol_of w) ≡ some (first_byte v w ∷ [])
one_read v w a b whole =
    let a = value_of_symbol v a in
    let b = value_of_symbol w b in
    (λ i. one_by (a i) (b i)) ∙ ap (λ (n : ℕ). given (n == 0) (first_byte v w ∷ [])) whole

-- ---- the last group, and a group before others

last_whole : (a b c d : ℕ) → (d == padding) ≡ false → last_group a b c d ≡ whole_group a b c d
last_whole a b c d e = ap (λ (t : Bool). if t then (if c == padding then one_group a b else two_group a b c) else whole_group a b c d) e

last_two : (a b c : ℕ) → (c == padding) ≡ false → last_group a b c padding ≡ two_group a b c
last_two a b c e = ap (λ (t : Bool). if t then one_group a b else two_group a b c) e

onto_text : (a b c d : ℕ) (text prefix bytes : List ℕ) → (d == padding) ≡ false → whole_group a b c d ≡ some prefix
    → base64_bytes text ≡ some bytes → base64_bytes (a ∷ b ∷ c ∷ d ∷ text) ≡ some (prefix ++ bytes)
unfolding base64_bytes
onto_text a b c d [] prefix bytes e g h =
    let none = some_is [] bytes h in
    last_whole a b c d e ∙ (g ∙ (ap some (sym (append-nil prefix)) ∙ ap (λ (more : List ℕ). some (prefix ++ more)) none))
onto_text a b c d (x ∷ text) prefix bytes e g h = λ i. joined (g i) (h i)

-- ---- texts

pub text_reads : (bytes : List ℕ) → IsBytes bytes → base64_bytes (base64_text bytes) ≡ some bytes
unfolding base64_text base64_bytes
text_reads [] h = refl
text_reads (a ∷ []) h =
    let k : a < 256 = h 0 in
    let e : first_byte (a / 4) (a % 4 * 16) ≡ a = omega arith in
    one_read (a / 4) (a % 4 * 16) (omega arith) (omega arith) (omega arith) ∙ ap (λ (x : ℕ). some (x ∷ [])) e
text_reads (a ∷ b ∷ []) h =
    let k : a < 256 = h 0 in
    let l : b < 256 = h 1 in
    let v = a / 4 in
    let w = a % 4 * 16 + b / 16 in
    let x = b % 16 * 4 in
    let e : first_byte v w ≡ a = omega arith in
    let f : second_byte w x ≡ b = omega arith in
    last_two (symbol_of v) (symbol_of w) (symbol_of x) (no_padding x (omega arith))
    ∙ (two_read v w x (omega arith) (omega arith) (omega arith) (omega arith) ∙ λ i. some (e i ∷ f i ∷ []))
text_reads (a ∷ b ∷ c ∷ rest) h =
    let k : a < 256 = h 0 in
    let l : b < 256 = h 1 in
    let m : c < 256 = h 2 in
    let v = a / 4 in
    let w = a % 4 * 16 + b / 16 in
    let x = b % 16 * 4 + c / 64 in
    let y = c % 64 in
    let e : first_byte v w ≡ a = omega arith in
    let f : second_byte w x ≡ b = omega arith in
    let g : third_byte x y ≡ c = omega arith in
    let r : whole_group (symbol_of v) (symbol_of w) (symbol_of x) (symbol_of y) ≡ some (a ∷ b ∷ c ∷ []) =
    whole_read v w x y (omega arith) (omega arith) (omega arith) (omega arith) ∙ (λ i. some (e i ∷ f i ∷ g i ∷ [])) in
    onto_text (symbol_of v) (symbol_of w) (symbol_of x) (symbol_of y) (base64_text rest) (a ∷ b ∷ c ∷ []) rest
    (no_padding y (omega arith)) r (text_reads rest (λ i. h (suc (suc (suc i)))))
