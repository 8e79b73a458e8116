-- The text of an SVG whose rows are written already.
use Rattle.std.specs.Prelude.{ℕ, List, [], ◌∷◌, ◌++◌, codes}
use Rattle.std.specs.Fmt.{decimal}
use Rattle.spec_page.specs.Html.{element, raw, said, open_tag}
use Rattle.spec_page.specs.Svg.{paper_element}
use Rattle.spec_page.specs.SvgStyle.{svg_style}
use Rattle.draw_page.specs.Texts.{text_of}

-- the first tag, with this view
unfoldable pub root_tag : List ℕ → ℕ → ℕ → List ℕ
root_tag view width height =
    open_tag (codes "svg")
    ((codes "xmlns", codes "http://www.w3.org/2000/svg")
    ∷ (codes "viewBox", view)
    ∷ (codes "width", decimal width)
    ∷ (codes "height", decimal height)
    ∷ (codes "role", codes "img")
    ∷ [])

unfoldable pub svg_before : List ℕ → ℕ → ℕ → List ℕ
svg_before title width height =
    root_tag (codes "0 0 " ++ (decimal width ++ (codes " " ++ decimal height))) width height
    ++ (text_of (element (codes "title") [] (said title)) ++ (10 ∷ (text_of (raw (codes "style") svg_style)
    ++ (10 ∷ (text_of (paper_element width height) ++ 10 ∷ [])))))

unfoldable pub svg_frame : List ℕ → ℕ → ℕ → List ℕ → List ℕ
svg_frame title width height rows = svg_before title width height ++ (rows ++ codes "</svg>\n")
