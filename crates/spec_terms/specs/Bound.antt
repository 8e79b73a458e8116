-- How far from zero an expression can get, where no secret is longer than an item of Bitcoin script may be.
use Rattle.std.specs.Prelude.{ℕ, ◌+◌, ◌^◌, min, nat_le, Bool, true, ◌&&◌, List, [], ◌∷◌, ◌++◌}
use Rattle.spec_data.specs.Ranges.{most_item_bytes}
use Rattle.spec_terms.specs.Term.{Expr, constant, length_of, plus, minus, Pred, always, both, negation, equal, less}

-- a number as the code counts it: held at 2 ^ 63
abbrev pub held : ℕ → ℕ
held n = min n (2 ^ 63)

-- a constant's own value, that of the longest item for a length, and the sum of both for plus and minus
abbrev pub bound : Expr → ℕ
bound (constant n) = n
bound (length_of name) = most_item_bytes
bound (plus e f) = bound e + bound f
bound (minus e f) = bound e + bound f

-- the greatest bound that an expression may have: its values then fit in the four bytes of an operand of Bitcoin script
abbrev pub greatest_bound : ℕ
greatest_bound = 2147483647

-- whether neither of two expressions exceeds it
abbrev pub are_bounded : Expr → Expr → Bool
are_bounded e f = nat_le (bound e) greatest_bound && nat_le (bound f) greatest_bound

-- whether no expression of the test exceeds it
abbrev pub is_bounded : Pred → Bool
is_bounded always = true
is_bounded (both p q) = is_bounded p && is_bounded q
is_bounded (negation p) = is_bounded p
is_bounded (equal e f) = are_bounded e f
is_bounded (less e f) = are_bounded e f

-- ---- the names whose lengths are taken

abbrev pub lengths_of_formula : Expr → List (List ℕ)
lengths_of_formula (constant n) = []
lengths_of_formula (length_of name) = name ∷ []
lengths_of_formula (plus e f) = lengths_of_formula e ++ lengths_of_formula f
lengths_of_formula (minus e f) = lengths_of_formula e ++ lengths_of_formula f

-- the names whose lengths the test takes, in the order of the text
abbrev pub lengths_of_test : Pred → List (List ℕ)
lengths_of_test always = []
lengths_of_test (both p q) = lengths_of_test p ++ lengths_of_test q
lengths_of_test (negation p) = lengths_of_test p
lengths_of_test (equal e f) = lengths_of_formula e ++ lengths_of_formula f
lengths_of_test (less e f) = lengths_of_formula e ++ lengths_of_formula f
