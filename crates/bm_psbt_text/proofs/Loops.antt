-- A text that grows by what is written of each element.
use Rattle.std.proofs.Common.{◌≡◌, ℕ, suc, ◌+◌, ◌<◌, List, ◌∷◌, ◌++◌, length, drop, get_or, sym, ap, ◌∙◌, append_assoc, add-one, drop-cons}
use Rattle.std.specs.List.{flat_map}

pub flat_goes : {A : Type 0} (f : A → List ℕ) (xs : List A) (i : ℕ) (x : A) (prefix out all : List ℕ) → i < length xs → x ≡ get_or xs i x
    → prefix ++ flat_map f (drop i xs) ≡ all → out ≡ prefix ++ f x → out ++ flat_map f (drop (i + 1) xs) ≡ all
flat_goes f xs i x prefix out all low is told e =
    let later = flat_map f (drop (suc i) xs) in
    let cut : drop i xs ≡ get_or xs i x ∷ drop (suc i) xs = drop-cons xs i x low in
    let here : flat_map f (drop i xs) ≡ f x ++ later = ap (flat_map f) cut ∙ ap (λ y. f y ++ later) (sym is) in
    rw add-one (ap (λ (t : List ℕ). t ++ later) e ∙ (append_assoc prefix (f x) later ∙ (ap (λ (t : List ℕ). prefix ++ t) (sym here) ∙ told)))
