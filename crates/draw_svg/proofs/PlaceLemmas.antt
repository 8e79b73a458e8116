-- The text of what stands at places, and of rows.
use Rattle.std.proofs.Common.{◌≡◌, ℕ, List, [], ◌∷◌, ◌++◌, refl, sym, ap, ◌∙◌, append_assoc}
use Rattle.std.specs.Prelude.{flat_map, codes}
use Rattle.spec_page.specs.Html.{Element, element_text, content_text, open_tag, all_of}
use Rattle.spec_page.specs.SvgLayout.{Placed, cells_places}
use Rattle.spec_page.specs.Svg.{placed_elements, id_attributes, back_element, row_element}
use Rattle.draw_page.specs.Texts.{text_of, each_text}
use Rattle.draw_svg.specs.PlacedTexts.{item_text, places_text, row_tag, row_text}

pub each_text_append : (xs ys : List Element) → each_text (xs ++ ys) ≡ each_text xs ++ each_text ys
each_text_append [] ys = refl
each_text_append (x ∷ xs) ys =
    ap (λ text. text_of x ++ text) (each_text_append xs ys) ∙ sym (append_assoc (text_of x) (each_text xs) (each_text ys))

pub places_text_append : (ps qs : List Placed) → places_text (ps ++ qs) ≡ places_text ps ++ places_text qs
places_text_append [] qs = refl
places_text_append (p ∷ ps) qs =
    ap (λ text. item_text p.line p.at p.item ++ text) (places_text_append ps qs)
    ∙ sym (append_assoc (item_text p.line p.at p.item) (places_text ps) (places_text qs))

pub cells_end : (line at : ℕ) (ws : List ℕ) → cells_places line at ws [] ≡ []
cells_end line at [] = refl
cells_end line at (w ∷ ws) = refl

each_is : (es : List Element) → content_text (all_of es) ≡ each_text es
unfolding text_of
each_is [] = refl
each_is (e ∷ es) = ap (λ text. element_text e ++ text) (each_is es)

places_are : (ps : List Placed) → each_text (flat_map placed_elements ps) ≡ places_text ps
unfolding item_text
places_are [] = refl
places_are (p ∷ ps) =
    each_text_append (placed_elements p) (flat_map placed_elements ps) ∙ ap (λ text. each_text (placed_elements p) ++ text) (places_are ps)

pub row_is : (width : ℕ) (look id : List ℕ) (line lines : ℕ) (places : List Placed)
    → row_text width look id line lines (places_text places)
    ≡ text_of (row_element width (record { look = look; id = id; line = line; lines = lines; places = places }))
unfolding text_of row_text row_tag
row_is width look id line lines places =
    let tag = open_tag (codes "g") ((codes "class", look) ∷ id_attributes id) in
    let back = element_text (back_element width look line lines) in
    ap (λ text. tag ++ (back ++ (text ++ codes "</g>"))) (sym (each_is (flat_map placed_elements places) ∙ places_are places))
    ∙ ap (λ text. tag ++ text) (sym (append_assoc back (content_text (all_of (flat_map placed_elements places))) (codes "</g>")))
