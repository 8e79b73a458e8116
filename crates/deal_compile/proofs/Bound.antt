-- Each deposit has a place where places are given to the names of all.
use Rattle.std.proofs.Common.{◌≡◌, ℕ, List, [], ◌∷◌, Bool, true, inl, inr, refl, sym, subst}
use Rattle.std.specs.Prelude.{is_some}
use Rattle.std.specs.List.{list_all}
use Rattle.std.proofs.lemmas.Bool.{and_from}
use Rattle.spec_data.specs.Lists.{look_up, is_among}
use Rattle.spec_terms.specs.Precondition.{Holding, names_of}
use Rattle.spec_bitcoin.specs.declared.tx.OutPoint.{OutPoint}
use Rattle.theory_calculus.specs.Members.{Is_in}
use Rattle.theory_calculus.proofs.Names.{in_named}
use Rattle.deal_compile.proofs.Puts.{among_found}

all_in : {X : Type 0} (f : X → Bool) (xs : List X) → ((x : X) → Is_in x xs → f x ≡ true) → list_all f xs ≡ true
all_in f [] h = refl
all_in f (x ∷ xs) h = and_from (f x) (list_all f xs) (h x (inl refl)) (all_in f xs (λ y i. h y (inr i)))

pub names_bound : (ds : List (List ℕ × Holding)) (bound : List (List ℕ × OutPoint)) → names_of bound ≡ names_of ds
    → list_all (λ d. is_some (look_up (d.0) bound)) ds ≡ true
names_bound ds bound same =
    all_in (λ d. is_some (look_up (d.0) bound)) ds
    (λ d i. among_found (d.0) bound (subst (λ names. is_among (d.0) names ≡ true) (sym same) (in_named ds d i)))
