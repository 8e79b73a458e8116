-- A branch of a choice, and how many it has.
use Rattle.std.proofs.Common.{◌≡◌, ℕ, zero, suc, ◌<◌, List, [], ◌∷◌, length, map, Option, Some, None, refl, sym, ap, ◌∙◌, arith}
use Rattle.std.specs.Prelude.{option_map, slice_get, IfSome}
use Rattle.spec_terms.specs.Term.{branches}
use Rattle.bm_syntax.specs.declared.term.Contract.{Contract}
use Rattle.bm_syntax.specs.View.{guarded, contract}
use Rattle.bm_syntax.proofs.Views.{branches-choice_of}

is_within : {X : Type 0} (xs : List X) (i : ℕ) (y : X) → slice_get xs i ≡ Some y → i < length xs
is_within [] i y e = cc
is_within (x ∷ xs) zero y e = omega arith
is_within (x ∷ xs) (suc i) y e = let h = is_within xs i y e in omega (arith, h)

pub some_within : {X Y : Type 0} (f : Y → X) (xs : List X) (i : ℕ) (r : Option Y) → option_map f r ≡ slice_get xs i
    → IfSome r (λ y. i < length xs)
some_within f xs i None e = tt
some_within f xs i (Some y) e = is_within xs i (f y) (sym e)

map_count : {X Y : Type 0} (f : X → Y) (xs : List X) → length (map f xs) ≡ length xs
map_count f [] = refl
map_count f (x ∷ xs) = ap suc (map_count f xs)

pub choice_count : (c : Contract) → length (branches (contract c)) ≡ length c.branches.items
choice_count c = ap length (branches-choice_of (map guarded c.branches.items)) ∙ map_count guarded c.branches.items
