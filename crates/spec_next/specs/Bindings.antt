-- The deposits that fit a contract of BitML, for its advertisement: the first by number for each name.
use Rattle.std.specs.Prelude.{ℕ, ◌==◌, List, [], ◌∷◌, ◌++◌, Bool, not, ◌&&◌, if◌then◌else◌, Option, Some, None}
use Rattle.std.specs.List.{list_any}
use Rattle.spec_terms.specs.Precondition.{Holding}
use Rattle.spec_calculus.specs.declared.parts.Deposit.{Deposit}
use Rattle.spec_calculus.specs.declared.step.Owner.TheVariants.{Party}
use Rattle.spec_calculus.specs.Same.{owner_eq}

-- whether a deposit has this owner and value
abbrev pub fits : Holding → Deposit → Bool
fits required d = owner_eq d.owner (Party required.owner) && (d.value == required.value)

-- whether a name is bound to the deposit of this number
abbrev pub is_taken : List (List ℕ × ℕ) → ℕ → Bool
is_taken bound number = list_any (λ b. b.1 == number) bound

-- the number of the first of these deposits that fits and that no name is bound to
abbrev pub first_fitting : Holding → List (List ℕ × ℕ) → List Deposit → Option ℕ
first_fitting required bound [] = None
first_fitting required bound (d ∷ ds) =
    if fits required d && not (is_taken bound d.number) then Some d.number else first_fitting required bound ds

-- the name with the number, if there is one
abbrev pub binding : List ℕ → Option ℕ → List (List ℕ × ℕ)
binding name None = []
binding name (Some number) = (name, number) ∷ []

-- these bindings, and one for each of these deposits of a precondition, in order, to the first of the live deposits that fits and that
-- none before it takes; a name that none fits is left out
abbrev pub bindings_onto : List Deposit → List (List ℕ × ℕ) → List (List ℕ × Holding) → List (List ℕ × ℕ)
bindings_onto live bound [] = bound
bindings_onto live bound (d ∷ ds) = bindings_onto live (bound ++ binding (d.0) (first_fitting (d.1) bound live)) ds

abbrev pub bindings_for : List Deposit → List (List ℕ × Holding) → List (List ℕ × ℕ)
bindings_for live ds = bindings_onto live [] ds
