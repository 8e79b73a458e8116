-- The names whose lengths a predicate takes.
use Rattle.std.proofs.Common.{◌≡◌, ℕ, List, [], ◌∷◌, ◌++◌, Bool, true, refl}
use Rattle.std.specs.List.{list_all}
use Rattle.std.proofs.lemmas.Bool.{and_parts, and_from}
use Rattle.spec_data.specs.Lists.{is_among}
use Rattle.spec_terms.specs.Term.{Expr, constant, length_of, plus, minus, Pred, always, both, negation, equal, less}
use Rattle.spec_terms.specs.Bound.{lengths_of_formula, lengths_of_test}
use Rattle.spec_terms.specs.Faults.{are_among}
use Rattle.theory_script.proofs.Scripts.Demanded.{covers, covers_test}

all_split : {X : Type 0} (f : X → Bool) (xs ys : List X) → list_all f (xs ++ ys) ≡ true → (list_all f xs ≡ true) × (list_all f ys ≡ true)
all_split f [] ys h = (refl, h)
all_split f (x ∷ xs) ys h =
    let p = and_parts (f x) (list_all f (xs ++ ys)) h in
    let q = all_split f xs ys p.1 in
    (and_from (f x) (list_all f xs) p.0 q.0, q.1)

covered_formula : (names : List (List ℕ)) (e : Expr) → are_among (lengths_of_formula e) names ≡ true → covers names e ≡ true
covered_formula names (constant n) h = refl
covered_formula names (length_of a) h = (and_parts (is_among a names) true h).0
covered_formula names (plus e f) h =
    let p = all_split (λ a. is_among a names) (lengths_of_formula e) (lengths_of_formula f) h in
    and_from (covers names e) (covers names f) (covered_formula names e p.0) (covered_formula names f p.1)
covered_formula names (minus e f) h =
    let p = all_split (λ a. is_among a names) (lengths_of_formula e) (lengths_of_formula f) h in
    and_from (covers names e) (covers names f) (covered_formula names e p.0) (covered_formula names f p.1)

pub covered : (names : List (List ℕ)) (p : Pred) → are_among (lengths_of_test p) names ≡ true → covers_test names p ≡ true
covered names always h = refl
covered names (negation p) h = covered names p h
covered names (both p q) h =
    let s = all_split (λ a. is_among a names) (lengths_of_test p) (lengths_of_test q) h in
    and_from (covers_test names p) (covers_test names q) (covered names p s.0) (covered names q s.1)
covered names (equal e f) h =
    let s = all_split (λ a. is_among a names) (lengths_of_formula e) (lengths_of_formula f) h in
    and_from (covers names e) (covers names f) (covered_formula names e s.0) (covered_formula names f s.1)
covered names (less e f) h =
    let s = all_split (λ a. is_among a names) (lengths_of_formula e) (lengths_of_formula f) h in
    and_from (covers names e) (covers names f) (covered_formula names e s.0) (covered_formula names f s.1)
