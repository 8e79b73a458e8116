-- What the test of bounds says of each expression.
use Rattle.std.proofs.Common.{◌≡◌, ◌≤◌, true}
use Rattle.std.proofs.lemmas.Bool.{and_parts, leb-true}
use Rattle.std.specs.Prelude.{nat_le}
use Rattle.spec_terms.specs.Term.{Expr, Pred, always, both, negation, equal, less}
use Rattle.spec_terms.specs.Bound.{bound, greatest_bound, are_bounded, is_bounded}
use Rattle.bm_pred.specs.Within.{IsWithin}

are_within : (e f : Expr) → are_bounded e f ≡ true → (bound e ≤ greatest_bound) × (bound f ≤ greatest_bound)
are_within e f h =
    let p = and_parts (nat_le (bound e) greatest_bound) (nat_le (bound f) greatest_bound) h in
    (leb-true (bound e) greatest_bound p.0, leb-true (bound f) greatest_bound p.1)

pub is_within : (t : Pred) → is_bounded t ≡ true → IsWithin t
is_within always h = tt
is_within (both p q) h = let k = and_parts (is_bounded p) (is_bounded q) h in (is_within p k.0, is_within q k.1)
is_within (negation p) h = is_within p h
is_within (equal e f) h = are_within e f h
is_within (less e f) h = are_within e f h
