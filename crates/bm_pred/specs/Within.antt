-- How far the values of expressions are from zero: the greatest bound as a fact of each expression of a test, and a bound as one of
-- each value.
use Rattle.std.specs.Prelude.{ℕ, ◌≤◌, List, All, unsigned_abs}
use Rattle.spec_data.specs.Ranges.{most_item_bytes}
use Rattle.spec_terms.specs.Term.{Expr, Pred, always, both, negation, equal, less}
use Rattle.spec_terms.specs.Bound.{bound, greatest_bound}
use Rattle.spec_terms.specs.Value.{value}

-- no expression of the test has a greater bound
abbrev pub IsWithin : Pred → Type 0
IsWithin always = Unit {0}
IsWithin (both p q) = IsWithin p × IsWithin q
IsWithin (negation p) = IsWithin p
IsWithin (equal e f) = (bound e ≤ greatest_bound) × (bound f ≤ greatest_bound)
IsWithin (less e f) = (bound e ≤ greatest_bound) × (bound f ≤ greatest_bound)

-- the size of each value of the expression is at most this, whatever the lengths, none of which is greater than an item's may be
abbrev pub BoundsEveryValue : ℕ → Expr → Type 0
BoundsEveryValue most f =
    (lengths : List (List ℕ × ℕ)) → All (λ entry. entry.1 ≤ most_item_bytes) lengths → unsigned_abs (value lengths f) ≤ most
