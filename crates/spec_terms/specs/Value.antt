-- The value of an expression over whole numbers, and whether a predicate is true.
use Rattle.std.specs.Prelude.{ℕ, ℤ, pos, ◌+ℤ◌, ◌-ℤ◌, int_lt, Bool, true, ◌&&◌, not, List, Option, Some, None}
use Rattle.std.specs.Ordering.{int_eq}
use Rattle.spec_data.specs.Lists.{look_up}
use Rattle.spec_terms.specs.Term.{Expr, constant, length_of, plus, minus, Pred, always, both, negation, equal, less}

-- a length that was looked up, 0 without one
abbrev pub length_or_zero : Option ℕ → ℕ
length_or_zero None = 0
length_or_zero (Some n) = n

-- the length that the list gives a name
abbrev pub length_in : List (List ℕ × ℕ) → List ℕ → ℕ
length_in lengths name = length_or_zero (look_up name lengths)

-- the value of an expression, where the list gives each name its length; nothing wraps, and it may be negative
abbrev pub value : List (List ℕ × ℕ) → Expr → ℤ
value lengths (constant n) = pos n
value lengths (length_of name) = pos (length_in lengths name)
value lengths (plus e f) = value lengths e +ℤ value lengths f
value lengths (minus e f) = value lengths e -ℤ value lengths f

-- whether a predicate is true of these lengths
abbrev pub holds : List (List ℕ × ℕ) → Pred → Bool
holds lengths always = true
holds lengths (both p q) = holds lengths p && holds lengths q
holds lengths (negation p) = not (holds lengths p)
holds lengths (equal e f) = int_eq (value lengths e) (value lengths f)
holds lengths (less e f) = int_lt (value lengths e) (value lengths f)
