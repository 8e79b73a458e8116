-- The text of a path is text in UTF-8.
use Rattle.std.proofs.Common.{◌≡◌, ℕ, zero, suc, ◌<◌, List, [], ◌∷◌, ◌++◌, sym, subst, ◌∙◌, arith}
use Rattle.std.specs.Prelude.{IsUtf8, String, string_bytes, Result, Ok, Err, IfOk}
use Rattle.std.specs.declared.alloc.Global.{Global}
use Rattle.std.specs.Fmt.{decimal}
use Rattle.std.specs.List.{flat_map, list_all}
use Rattle.std.specs.Str.{IsAscii}
use Rattle.std.proofs.lemmas.Str.{IsUtf8-from_ascii}
use Rattle.spec_data.specs.Digits.{is_digit}
use Rattle.spec_terms.specs.declared.path.PathStep.{PathStep}
use Rattle.spec_terms.specs.declared.path.PathStep.TheVariants.{Branch as To, Part as Into}
use Rattle.spec_bitcoin.specs.Keys.{step_text, path_text}
use Rattle.theory_text.proofs.ListFacts.{and_left, and_right}
use Rattle.bm_plan.proofs.Json.Digits.{AllDigits, digit_from, decimal_digits}

ascii_more : (x : ℕ) (xs : List ℕ) → x < 128 → IsAscii xs → IsAscii (x ∷ xs)
ascii_more x xs h k zero = h
ascii_more x xs h k (suc i) = k i

ascii_none : IsAscii []
ascii_none i = omega arith

digits_onto : (digits rest : List ℕ) → AllDigits digits → IsAscii rest → IsAscii (digits ++ rest)
digits_onto [] rest h k = k
digits_onto (c ∷ digits) rest h k =
    let r = digit_from c (and_left (is_digit c) (list_all is_digit digits) h) in
    let low : c < 128 = omega (arith, r.0, r.1) in
    ascii_more c (digits ++ rest) low (digits_onto digits rest (and_right (is_digit c) (list_all is_digit digits) h) k)

step_onto : (step : PathStep) (rest : List ℕ) → IsAscii rest → IsAscii (step_text step ++ rest)
step_onto (To n) rest k = ascii_more 46 (decimal n ++ rest) (omega arith) (digits_onto (decimal n) rest (decimal_digits n) k)
step_onto (Into n) rest k = ascii_more 47 (decimal n ++ rest) (omega arith) (digits_onto (decimal n) rest (decimal_digits n) k)

steps_ascii : (path : List PathStep) → IsAscii (flat_map step_text path)
steps_ascii [] = ascii_none
steps_ascii (step ∷ path) = step_onto step (flat_map step_text path) (steps_ascii path)

pub path_is_utf8 : (path : List PathStep) → IsUtf8 (path_text path)
path_is_utf8 path = IsUtf8-from_ascii (path_text path) (ascii_more 114 (flat_map step_text path) (omega arith) (steps_ascii path))

-- a text in UTF-8 is taken as it is
pub taken_whole : {E : Type 0} (r : Result (String Global) E) (bytes text : List ℕ) → IfOk r (λ t. IsUtf8 bytes → string_bytes t ≡ bytes)
    → bytes ≡ text → IsUtf8 text → IfOk r (λ t. string_bytes t ≡ text)
taken_whole (Ok t) bytes text h e k = h (subst IsUtf8 (sym e) k) ∙ e
taken_whole (Err x) bytes text h e k = tt
