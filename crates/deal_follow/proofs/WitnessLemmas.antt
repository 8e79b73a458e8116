-- A witness by its last item and those before it.
use Rattle.std.proofs.Common.{◌≡◌, ℕ, List, [], ◌∷◌, ◌++◌, Bool, true, not, ◌&&◌, refl, sym, ap, ◌∙◌}
use Rattle.std.specs.List.{list_any, IsLastAndRest}
use Rattle.std.specs.Str.{bytes_eq}
use Rattle.spec_bitcoin.specs.Meaning.{script_meaning}
use Rattle.spec_bitcoin.specs.Spelling.{is_filled}
use Rattle.spec_bitcoin.specs.Verdict.{script_of, items_of, is_long}
use Rattle.spec_chain.specs.Refusals.{takes_all, opens}

is_filled-push : (prefix : List (List ℕ)) (x : List ℕ) → is_filled (prefix ++ x ∷ []) ≡ true
is_filled-push [] x = refl
is_filled-push (y ∷ ys) x = refl

script_of-push : (prefix : List (List ℕ)) (x : List ℕ) → script_of (prefix ++ x ∷ []) ≡ x
script_of-push [] x = refl
script_of-push (y ∷ []) x = refl
script_of-push (y ∷ z ∷ zs) x = script_of-push (z ∷ zs) x

items_of-push : (prefix : List (List ℕ)) (x : List ℕ) → items_of (prefix ++ x ∷ []) ≡ prefix
items_of-push [] x = refl
items_of-push (y ∷ []) x = refl
items_of-push (y ∷ z ∷ zs) x = ap (λ (l : List (List ℕ)). y ∷ l) (items_of-push (z ∷ zs) x)

module _ (hash : List ℕ → List ℕ) (script : List ℕ) where
  abbrev meets : List (List ℕ) → Bool
  meets items = not (list_any is_long items) && script_meaning hash takes_all script items

  pub opens_by : (witness : List (List ℕ)) (x : List ℕ) (prefix : List (List ℕ)) → IsLastAndRest witness x prefix
      → opens hash script witness ≡ (bytes_eq x script && meets prefix)
  opens_by witness x prefix h =
      ap (opens hash script) h.0
      ∙ ap (λ b. b && (bytes_eq (script_of (prefix ++ x ∷ [])) script && meets (items_of (prefix ++ x ∷ [])))) (is_filled-push prefix x)
      ∙ ap (λ (y : List ℕ). bytes_eq y script && meets (items_of (prefix ++ x ∷ []))) (script_of-push prefix x)
      ∙ ap (λ (items : List (List ℕ)). bytes_eq x script && meets items) (items_of-push prefix x)

  -- where the last item is another script, and where it is this one
  pub opens_by_test : (witness : List (List ℕ)) (x : List ℕ) (prefix : List (List ℕ)) (b : Bool) → IsLastAndRest witness x prefix
      → bytes_eq x script ≡ b → (b && meets prefix) ≡ opens hash script witness
  opens_by_test witness x prefix b h e = sym (opens_by witness x prefix h ∙ ap (λ t. t && meets prefix) e)
