-- The text of elements and cells, by names that don't compute away.
use Rattle.std.specs.Prelude.{ℕ, List, [], ◌∷◌, ◌++◌, length, codes}
use Rattle.spec_page.specs.Html.{Element, element_text, open_tag, end_tag}
use Rattle.spec_page.specs.Cells.{cell_attributes, party_look}

unfoldable pub text_of : Element → List ℕ
text_of e = element_text e

-- one behind another
abbrev pub each_text : List Element → List ℕ
each_text [] = []
each_text (e ∷ es) = text_of e ++ each_text es

-- each with a space behind it
abbrev pub spaced_text : List Element → List ℕ
spaced_text [] = []
spaced_text (e ∷ es) = text_of e ++ (32 ∷ spaced_text es)

-- each on a line of its own
abbrev pub lines_text : List Element → List ℕ
lines_text [] = []
lines_text (e ∷ es) = text_of e ++ (10 ∷ lines_text es)

-- a cell of a sum, in which this text stands
unfoldable pub sum_cell_text : List ℕ → List ℕ → List ℕ → List ℕ
sum_cell_text look name inside = open_tag (codes "td") (cell_attributes look name (length inside)) ++ (inside ++ end_tag (codes "td"))

abbrev pub party_cell_text : ℕ → List ℕ → List ℕ → List ℕ
party_cell_text n party inside = sum_cell_text (codes " " ++ party_look n) party inside
