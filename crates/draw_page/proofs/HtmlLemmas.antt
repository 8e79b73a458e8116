-- The text of elements that stand one behind another.
use Rattle.std.proofs.Common.{◌≡◌, ℕ, List, [], ◌∷◌, ◌++◌, refl, sym, ap, ◌∙◌, append_assoc}
use Rattle.std.specs.Prelude.{codes}
use Rattle.spec_page.specs.Html.{Element, element_text, content_text, escaped, attribute_text, all_of, spaced, lines_of}

-- an attribute, as its text is read from left to right
pub attribute_is : (name value : List ℕ) → attribute_text (name, value) ≡ 32 ∷ (name ++ 61 ∷ 34 ∷ (escaped value ++ 34 ∷ []))
unfolding attribute_text
attribute_is name value = refl

pub all_of_append : (xs ys : List Element) → content_text (all_of (xs ++ ys)) ≡ content_text (all_of xs) ++ content_text (all_of ys)
all_of_append [] ys = refl
all_of_append (x ∷ xs) ys =
    ap (λ text. element_text x ++ text) (all_of_append xs ys) ∙ sym (append_assoc (element_text x) (content_text (all_of xs)) (content_text (all_of ys)))

pub spaced_append : (xs ys : List Element) → content_text (spaced (xs ++ ys)) ≡ content_text (spaced xs) ++ content_text (spaced ys)
spaced_append [] ys = refl
spaced_append (x ∷ xs) ys =
    ap (λ text. element_text x ++ (codes " " ++ text)) (spaced_append xs ys)
    ∙ sym (append_assoc (element_text x) (codes " " ++ content_text (spaced xs)) (content_text (spaced ys)))

pub lines_append : (xs ys : List Element) → content_text (lines_of (xs ++ ys)) ≡ content_text (lines_of xs) ++ content_text (lines_of ys)
lines_append [] ys = refl
lines_append (x ∷ xs) ys =
    ap (λ text. element_text x ++ (10 ∷ text)) (lines_append xs ys)
    ∙ sym (append_assoc (element_text x) (10 ∷ content_text (lines_of xs)) (content_text (lines_of ys)))
