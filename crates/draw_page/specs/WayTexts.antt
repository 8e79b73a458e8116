-- The text of a row of a contract whose cells are written already.
use Rattle.std.specs.Prelude.{ℕ, List, ◌++◌, min, codes}
use Rattle.std.specs.Fmt.{decimal}
use Rattle.spec_page.specs.Html.{escaped}
use Rattle.spec_page.specs.Cells.{last_cells}
use Rattle.spec_page.specs.ContractPart.{Scene}
use Rattle.spec_page.specs.Timeline.{end_word, statuses_text, looks_of}
use Rattle.draw_page.specs.Texts.{each_text}

-- the end look and all looks, the name, so far to the right, what stands beside it, and the cells
unfoldable pub row_text : List ℕ → List ℕ → List ℕ → ℕ → List ℕ → List ℕ → List ℕ → List ℕ
row_text end at name depth inside cells rest =
    codes "<tr class=\"way d" ++ (escaped (decimal depth) ++ (codes " " ++ (escaped end
    ++ (codes "\" data-at=\"" ++ (escaped at ++ (codes "\"><td class=\"path\"><bdi>" ++ (escaped name
    ++ (codes "</bdi></td><td class=\"what\">" ++ (inside ++ (codes "</td>" ++ (cells ++ (rest ++ codes "</tr>"))))))))))))

-- the row of part n
unfoldable pub way_text : Scene → ℕ → List ℕ → ℕ → List ℕ → List ℕ → List ℕ
way_text s n name depth inside cells =
    row_text (end_word (looks_of n s.rows)) (statuses_text (looks_of n s.rows)) name (min depth 8) inside cells (each_text (last_cells s.columns))

-- the row before alternatives
unfoldable pub fork_row_text : ℕ → List ℕ → List ℕ → List ℕ → List ℕ
fork_row_text depth inside cells rest =
    codes "<tr class=\"fork d" ++ (escaped (decimal depth) ++ (codes "\"><td></td><td class=\"what\">" ++ (inside
    ++ (codes "<b>one of</b></td>" ++ (cells ++ (rest ++ codes "</tr>"))))))

unfoldable pub fork_text : Scene → ℕ → List ℕ → List ℕ → List ℕ
fork_text s depth inside cells = fork_row_text (min depth 8) inside cells (each_text (last_cells s.columns))
