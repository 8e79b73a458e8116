-- What a search finds is the first of which it holds.
use Rattle.std.proofs.Common.{◌≡◌, List, [], ◌∷◌, Bool, true, false, Option, Some, None, refl, sym, ap, ◌∙◌, cond, inl, inr}
use Rattle.std.specs.Prelude.{Decides, not, ◌||◌}
use Rattle.std.specs.List.{find, list_any, list_all}
use Rattle.std.proofs.lemmas.Bool.{false≢true}
use Rattle.std.proofs.lemmas.Bool.Decides.{Decides-and}
use Rattle.theory_deal.specs.FirstOf.{NoneIs, IsFirst, EachIs}

pub refuted : {P : Type 0} (b : Bool) → Decides b P → b ≡ false → P → ⊥
refuted b d e h = false≢true (sym e ∙ d.1 h)

pub is_false : {P : Type 0} (b : Bool) → Decides b P → (P → ⊥) → b ≡ false
is_false true d h = absurd (h (d.0 refl))
is_false false d h = refl

module _ {X : Type 0} (p : X → Bool) (P : X → Type 0) (d : (x : X) → Decides (p x) (P x)) where
  pub none_found : (xs : List X) → find p xs ≡ None → NoneIs P xs
  none_found [] e = tt
  none_found (x ∷ xs) e = by_test (p x) refl e (none_found xs)
    where
      by_test : (b : Bool) → p x ≡ b → cond b (Some x) (find p xs) ≡ None → (find p xs ≡ None → NoneIs P xs)
          → (P x → ⊥) × NoneIs P xs
      by_test true k h later = cc
      by_test false k h later = (refuted (p x) (d x) k, later h)

  pub none_finds : (xs : List X) → NoneIs P xs → find p xs ≡ None
  none_finds [] h = refl
  none_finds (x ∷ xs) h =
      ap (λ (b : Bool). cond b (Some x) (find p xs)) (is_false (p x) (d x) h.0) ∙ none_finds xs h.1

  pub found_first : (xs : List X) (first : X) → find p xs ≡ Some first → IsFirst P xs first
  found_first [] first e = cc
  found_first (x ∷ xs) first e = by_test (p x) refl e (found_first xs first)
    where
      by_test : (b : Bool) → p x ≡ b → cond b (Some x) (find p xs) ≡ Some first → (find p xs ≡ Some first → IsFirst P xs first)
          → IsFirst P (x ∷ xs) first
      by_test true k h later = inl ((d x).0 k, cc)
      by_test false k h later = inr (refuted (p x) (d x) k, later h)

  pub first_found : (xs : List X) (first : X) → IsFirst P xs first → find p xs ≡ Some first
  first_found [] first h = absurd h
  first_found (x ∷ xs) first (inl h) =
      ap (λ (b : Bool). cond b (Some x) (find p xs)) ((d x).1 h.0) ∙ ap (λ (y : X). Some y) h.1
  first_found (x ∷ xs) first (inr h) =
      ap (λ (b : Bool). cond b (Some x) (find p xs)) (is_false (p x) (d x) h.0) ∙ first_found xs first h.1

  pub none_any : (xs : List X) → Decides (not (list_any p xs)) (NoneIs P xs)
  none_any [] = (λ e. tt, λ h. refl)
  none_any (x ∷ xs) = by_test (p x) refl (none_any xs)
    where
      by_test : (b : Bool) → p x ≡ b → Decides (not (list_any p xs)) (NoneIs P xs)
          → Decides (not (b || list_any p xs)) ((P x → ⊥) × NoneIs P xs)
      by_test true k ih = (λ e. absurd (false≢true e), λ h. absurd (h.0 ((d x).0 k)))
      by_test false k ih = (λ e. (refuted (p x) (d x) k, ih.0 e), λ h. ih.1 h.1)

  pub each_is : (xs : List X) → Decides (list_all p xs) (EachIs P xs)
  each_is [] = (λ e. tt, λ h. refl)
  each_is (x ∷ xs) = Decides-and (p x) (list_all p xs) (d x) (each_is xs)
