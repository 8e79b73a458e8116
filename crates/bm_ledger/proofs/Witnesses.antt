-- The last item of a witness and those before it.
use Rattle.std.proofs.Common.{◌≡◌, ℕ, List, [], ◌∷◌, ◌++◌, refl, sym, ap, ◌∙◌}
use Rattle.std.specs.List.{IsLastAndRest}
use Rattle.spec_bitcoin.specs.Verdict.{script_of, items_of}

script_of-push : (prefix : List (List ℕ)) (x : List ℕ) → script_of (prefix ++ x ∷ []) ≡ x
script_of-push [] x = refl
script_of-push (y ∷ []) x = refl
script_of-push (y ∷ z ∷ zs) x = script_of-push (z ∷ zs) x

items_of-push : (prefix : List (List ℕ)) (x : List ℕ) → items_of (prefix ++ x ∷ []) ≡ prefix
items_of-push [] x = refl
items_of-push (y ∷ []) x = refl
items_of-push (y ∷ z ∷ zs) x = ap (λ l. y ∷ l) (items_of-push (z ∷ zs) x)

pub last_is_script : (xs : List (List ℕ)) (x : List ℕ) (prefix : List (List ℕ)) → IsLastAndRest xs x prefix → x ≡ script_of xs
last_is_script xs x prefix h = sym (ap script_of h.0 ∙ script_of-push prefix x)

pub rest_is_items : (xs : List (List ℕ)) (x : List ℕ) (prefix : List (List ℕ)) → IsLastAndRest xs x prefix → prefix ≡ items_of xs
rest_is_items xs x prefix h = sym (ap items_of h.0 ∙ items_of-push prefix x)
