-- The text of what stands at a place, by names that don't compute away.
use Rattle.std.specs.Prelude.{ℕ, List, [], ◌∷◌, ◌++◌, codes}
use Rattle.spec_page.specs.declared.svg_row.Item.{Item}
use Rattle.spec_page.specs.SvgLayout.{Placed, PlacedRow}
use Rattle.spec_page.specs.Html.{open_tag}
use Rattle.spec_page.specs.Svg.{item_elements, id_attributes, back_element, row_element}
use Rattle.draw_page.specs.Texts.{text_of, each_text}

unfoldable pub item_text : ℕ → ℕ → Item → List ℕ
item_text line at i = each_text (item_elements line at i)

abbrev pub places_text : List Placed → List ℕ
places_text [] = []
places_text (p ∷ ps) = item_text p.line p.at p.item ++ places_text ps

-- the tag before a row
unfoldable pub row_tag : List ℕ → List ℕ → List ℕ
row_tag look id = open_tag (codes "g") ((codes "class", look) ∷ id_attributes id)

-- a row whose texts are written already
unfoldable pub row_text : ℕ → List ℕ → List ℕ → ℕ → ℕ → List ℕ → List ℕ
row_text width look id line lines places =
    row_tag look id ++ (text_of (back_element width look line lines) ++ (places ++ codes "</g>"))

-- rows, each on a line of its own
abbrev pub rows_text : ℕ → List PlacedRow → List ℕ
rows_text width [] = []
rows_text width (r ∷ rs) = text_of (row_element width r) ++ (10 ∷ rows_text width rs)
