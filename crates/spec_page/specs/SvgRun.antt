-- The rows of a run, as an SVG has them.
use Rattle.std.specs.Prelude.{ℕ, ◌+◌, ◌==◌, nat_lt, List, [], ◌∷◌, ◌++◌, map, length, Bool, if◌then◌else◌, Option, Some, None, codes}
use Rattle.spec_run.specs.Translation.{last_or}
use Rattle.spec_page.specs.declared.event_row.EventRow.{EventRow}
use Rattle.spec_page.specs.declared.event_row.Money.{Money}
use Rattle.spec_page.specs.declared.event_row.Look.{Look}
use Rattle.spec_page.specs.declared.event_row.Look.TheVariants as looks
use Rattle.spec_page.specs.declared.picture.Picture.{Picture}
use Rattle.spec_page.specs.declared.status.Status.{Status}
use Rattle.spec_page.specs.declared.svg_row.Kind.{Kind}
use Rattle.spec_page.specs.declared.svg_row.Kind.TheVariants as kinds
use Rattle.spec_page.specs.declared.svg_row.Item.{Item}
use Rattle.spec_page.specs.declared.svg_row.Cell.{Cell}
use Rattle.spec_page.specs.declared.svg_row.GridRow.{GridRow}
use Rattle.spec_page.specs.Figures.{sum_text}
use Rattle.spec_page.specs.Cells.{Columns}
use Rattle.spec_page.specs.RunPart.{look_word, row_id, number_text, sum_at, sum_before, field}
use Rattle.spec_page.specs.Page.{is_elsewhere, columns_of, last_money}
use Rattle.spec_page.specs.SvgItems.{item, said_items, item_if, cell, grid_row}
use Rattle.spec_page.specs.SvgContract.{name_cells, head_grid, sheet_grids}

-- ---- cells

-- a sum where it isn't what it was in the row before
abbrev pub changed_items : Option ℕ → ℕ → List Item
changed_items None now = item kinds.Sum None (sum_text now) ∷ []
changed_items (Some before) now = if before == now then [] else item kinds.Sum None (sum_text now) ∷ []

-- what the parties from number n on have
abbrev pub party_cells : Option Money → Money → ℕ → List (List ℕ) → List Cell
party_cells before now n [] = []
party_cells before now n (p ∷ ps) =
    cell (changed_items (sum_before n before) (sum_at n now)) ∷ party_cells before now (n + 1) ps

-- one that is there only where anything is ever elsewhere
abbrev pub cell_if : Bool → Cell → List Cell
cell_if there c = if there then c ∷ [] else []

-- what the contract has, what is elsewhere, and the fees
abbrev pub last_cells : Bool → Option Money → Money → List Cell
last_cells elsewhere before now =
    cell (changed_items (field (λ m. m.contracts) before) now.contracts)
    ∷ (cell_if elsewhere (cell (changed_items (field (λ m. m.elsewhere) before) now.elsewhere))
    ++ cell (changed_items (field (λ m. m.fees) before) now.fees) ∷ [])

abbrev pub money_cells : Columns → Option Money → Money → List Cell
money_cells c before now = party_cells before now 0 c.parties ++ last_cells c.elsewhere before now

abbrev pub title_cell : List ℕ → Cell
title_cell text = cell (item kinds.Strong None text ∷ [])

abbrev pub last_titles : Bool → List Cell
last_titles elsewhere =
    title_cell (codes "contract") ∷ (cell_if elsewhere (title_cell (codes "elsewhere")) ++ title_cell (codes "fees") ∷ [])

-- ---- rows

abbrev pub note_kind : Look → Kind
note_kind looks.Refused = kinds.Bad
note_kind looks.Halt = kinds.Bad
note_kind looks.Start = kinds.Note
note_kind looks.Blocks = kinds.Note
note_kind looks.Done = kinds.Note
note_kind looks.Accepted = kinds.Note
note_kind looks.More = kinds.Note

-- a row, behind one that left this money
abbrev pub event_grid : Columns → Option Money → EventRow → GridRow
event_grid c before r =
    grid_row (codes "ev " ++ look_word r.look) (row_id r.first r.look) 0 (item_if kinds.Path (number_text r r.look))
    (said_items kinds.Word r.words ++ said_items (note_kind r.look) r.note) (money_cells c before r.money)

abbrev pub event_grids : Columns → Option Money → List EventRow → List GridRow
event_grids c before [] = []
event_grids c before (r ∷ rs) = event_grid c before r ∷ event_grids c (Some r.money) rs

-- all sums at the end; together they are the deposits
abbrev pub end_grid : Columns → Money → GridRow
end_grid c m = grid_row (codes "total") [] 0 [] (said_items kinds.Strong (codes "at the end")) (money_cells c None m)

abbrev pub run_grids : Columns → List EventRow → Money → List GridRow
run_grids c rows m =
    head_grid (codes "the run") (name_cells 0 c.parties ++ last_titles c.elsewhere) ∷ (event_grids c None rows ++ end_grid c m ∷ [])

-- ---- all

-- where all parts of the contracts stand at the end
abbrev pub last_looks : List EventRow → List Status
last_looks rows = last_or [] (map (λ r. r.looks) rows)

-- the rows of a picture, but what can be done at the end
abbrev pub picture_grids : Picture → List GridRow
picture_grids p =
    sheet_grids p.parties (nat_lt 1 (length p.sheets)) (last_looks p.rows) 0 0 p.sheets
    ++ run_grids (columns_of p) p.rows (last_money p.rows)

-- what can be done at the end
abbrev pub outlook_items : List EventRow → List Item
outlook_items rows =
    said_items kinds.Strong (codes "can now:") ++ said_items kinds.Word (last_or [] (map (λ r. r.outlook) rows))
