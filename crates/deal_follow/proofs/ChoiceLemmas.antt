-- A choice has as many branches as its term.
use Rattle.std.proofs.Common.{◌≡◌, suc, List, [], ◌∷◌, length, map, refl, ap}
use Rattle.spec_terms.specs.Term.{branches}
use Rattle.bm_syntax.specs.declared.term.Contract.{Contract}
use Rattle.bm_syntax.specs.View.{guarded, contract}
use Rattle.bm_syntax.proofs.Views.{branches-choice_of}

map_count : {A B : Type 0} (f : A → B) (xs : List A) → length (map f xs) ≡ length xs
map_count f [] = refl
map_count f (x ∷ xs) = ap suc (map_count f xs)

pub choice_count : (c : Contract) → length (branches (contract c)) ≡ length c.branches.items
choice_count c = rw branches-choice_of (map_count guarded c.branches.items)
