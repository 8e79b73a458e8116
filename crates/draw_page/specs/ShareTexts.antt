-- The text of the value of a part.
use Rattle.std.specs.Prelude.{ℕ, List, [], ◌++◌, Option, Some, None, codes}
use Rattle.spec_page.specs.Figures.{sum_text}
use Rattle.spec_page.specs.Html.{classed, said}
use Rattle.draw_page.specs.Texts.{text_of}

abbrev pub share_text : Option ℕ → List ℕ
share_text None = []
share_text (Some value) = text_of (classed (codes "span") (codes "part") (said (sum_text value ++ codes ": ")))
