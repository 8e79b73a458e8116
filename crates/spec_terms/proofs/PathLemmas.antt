-- What stands at the end of a longer path.
use Rattle.std.proofs.Common.{◌≡◌, ℕ, List, [], ◌∷◌, ◌++◌, Option, Some, None, option_and_then, refl, ap}
use Rattle.spec_terms.specs.Term.{Contract}
use Rattle.spec_terms.specs.Paths.{Subterm, position, next_subterm, subterm_from, as_branch, at}
use Rattle.spec_terms.specs.declared.path.PathStep.{PathStep}
use Rattle.spec_terms.specs.declared.path.PathStep.TheVariants.{Branch as To}

-- no step leads nowhere else
last_step : (o : Option Subterm) → option_and_then (λ q. subterm_from q []) o ≡ o
last_step None = refl
last_step (Some q) = refl

chained : {X Y Z : Type 0} (f : X → Option Z) (h : X → Option Y) (g : Y → Option Z) → ((q : X) → f q ≡ option_and_then g (h q))
    → (o : Option X) → option_and_then f o ≡ option_and_then g (option_and_then h o)
chained f h g e None = refl
chained f h g e (Some q) = e q

-- one more step at the end
pub subterm_from-step : (p : Subterm) (xs : List PathStep) (s : PathStep) → subterm_from p (xs ++ s ∷ [])
    ≡ option_and_then (λ q. next_subterm q s) (subterm_from p xs)
subterm_from-step p [] s = last_step (next_subterm p s)
subterm_from-step p (x ∷ xs) s =
    chained (λ q. subterm_from q (xs ++ s ∷ [])) (λ q. subterm_from q xs) (λ q. next_subterm q s) (λ q. subterm_from-step q xs s) (next_subterm p x)

-- a branch of the position at the end of a path
pub at_longer : (root : Contract) (xs : List PathStep) (i : ℕ)
    → at root (xs ++ To i ∷ []) ≡ option_and_then as_branch (option_and_then (λ q. next_subterm q (To i)) (subterm_from (position root) xs))
at_longer root xs i = ap (option_and_then as_branch) (subterm_from-step (position root) xs (To i))
