-- The text of a row of a run whose cells are written already.
use Rattle.std.specs.Prelude.{ℕ, List, [], ◌++◌, Bool, true, false, Option, Some, None, ◌==◌, if◌then◌else◌, codes}
use Rattle.std.specs.Fmt.{decimal}
use Rattle.spec_page.specs.Figures.{sum_text}
use Rattle.spec_page.specs.Html.{escaped}
use Rattle.draw_page.specs.Texts.{sum_cell_text}

-- a sum where it isn't what it was before
abbrev pub changed_text : Option ℕ → ℕ → List ℕ
changed_text None now = escaped (sum_text now)
changed_text (Some before) now = if before == now then [] else escaped (sum_text now)

-- look, id, number of the first event, money, what stands beside the slider, numbers, lines, words, note, and the cells
unfoldable pub event_row_text : List ℕ → List ℕ → ℕ → List ℕ → List ℕ → List ℕ → List ℕ → List ℕ → List ℕ → List ℕ → List ℕ → List ℕ
event_row_text look id first money said numbers lines words note cells rest =
    codes "<tr class=\"ev " ++ (escaped look ++ (codes "\" id=\"" ++ (escaped id ++ (codes "\" data-first=\"" ++ (escaped (decimal first)
    ++ (codes "\" data-money=\"" ++ (escaped money ++ (codes "\" data-said=\"" ++ (escaped said
    ++ (codes "\"><td class=\"path\"><bdi>" ++ (escaped numbers ++ (codes "</bdi></td><td class=\"what\" title=\"" ++ (escaped lines
    ++ (codes "\">" ++ (escaped words ++ (note ++ (codes "</td>" ++ (cells ++ (rest ++ codes "</tr>")))))))))))))))))))

-- the row of all sums at the end
unfoldable pub end_row_text : List ℕ → List ℕ → List ℕ
end_row_text cells rest = codes "<tr class=\"total\"><td></td><td class=\"what\">at the end</td>" ++ (cells ++ (rest ++ codes "</tr>"))

-- the cell of what is elsewhere, in a table that has it
abbrev pub elsewhere_text : Bool → Option ℕ → ℕ → List ℕ
elsewhere_text true before now = sum_cell_text [] (codes "elsewhere") (changed_text before now)
elsewhere_text false before now = []
