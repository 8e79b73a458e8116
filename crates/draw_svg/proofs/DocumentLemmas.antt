-- The text of an SVG whose rows are written already.
use Rattle.std.proofs.Common.{◌≡◌, ℕ, ◌+◌, ◌*◌, List, [], ◌∷◌, ◌++◌, map, refl, sym, ap, ◌∙◌, append_assoc, arith}
use Rattle.std.specs.Prelude.{codes}
use Rattle.std.proofs.lemmas.Grind.{common_steps}
use Rattle.spec_page.specs.Html.{Element, element, raw, element_text, content_text, open_tag, lines_of, said}
use Rattle.spec_page.specs.SvgLayout.{PlacedRow, Drawing}
use Rattle.spec_page.specs.SvgStyle.{svg_style}
use Rattle.spec_page.specs.Svg.{row_element, root_attributes, paper_element, svg_by, svg_of, svg_document}
use Rattle.draw_page.specs.Texts.{text_of}
use Rattle.draw_svg.specs.PlacedTexts.{rows_text}
use Rattle.draw_svg.specs.Documents.{root_tag, svg_before, svg_frame}

pub rows_text_append : (width : ℕ) (xs ys : List PlacedRow) → rows_text width (xs ++ ys) ≡ rows_text width xs ++ rows_text width ys
rows_text_append width [] ys = refl
rows_text_append width (x ∷ xs) ys =
    ap (λ text. text_of (row_element width x) ++ (10 ∷ text)) (rows_text_append width xs ys)
    ∙ sym (append_assoc (text_of (row_element width x)) (10 ∷ rows_text width xs) (rows_text width ys))

rows_are : (width : ℕ) (rs : List PlacedRow) → rows_text width rs ≡ content_text (lines_of (map (row_element width) rs))
unfolding text_of
rows_are width [] = refl
rows_are width (r ∷ rs) = ap (λ text. element_text (row_element width r) ++ (10 ∷ text)) (rows_are width rs)

-- parts of a text, as they are put together in two ways
together : (tag title style paper rows end : List ℕ)
    → (tag ++ (title ++ (10 ∷ (style ++ (10 ∷ (paper ++ 10 ∷ [])))))) ++ (rows ++ (end ++ 10 ∷ []))
    ≡ (tag ++ ((title ++ (10 ∷ (style ++ (10 ∷ (paper ++ (10 ∷ rows)))))) ++ end)) ++ 10 ∷ []
together tag title style paper rows end = grind (arith, common_steps, append_assoc)

frame_is : (title : List ℕ) (width height : ℕ) (rows : List Element)
    → svg_frame title width height (content_text (lines_of rows)) ≡ svg_document (svg_by title width height rows)
unfolding text_of root_tag svg_before svg_frame
frame_is title width height rows =
    together (open_tag (codes "svg") (root_attributes width height)) (element_text (element (codes "title") [] (said title)))
    (element_text (raw (codes "style") svg_style)) (element_text (paper_element width height)) (content_text (lines_of rows)) (codes "</svg>")

pub drawing_is : (title : List ℕ) (d : Drawing)
    → svg_frame title (8 * d.width + 16) (20 * d.lines + 16) (rows_text d.width d.rows) ≡ svg_document (svg_of title d)
unfolding svg_of
drawing_is title d =
    ap (λ text. svg_frame title (8 * d.width + 16) (20 * d.lines + 16) text) (rows_are d.width d.rows)
    ∙ frame_is title (8 * d.width + 16) (20 * d.lines + 16) (map (row_element d.width) d.rows)
