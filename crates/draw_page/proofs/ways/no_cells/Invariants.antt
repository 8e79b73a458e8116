use Rattle.std.proofs.Common.{◌≡◌, ◌++◌, drop}
use Rattle.spec_page.specs.Cells.{each_from}
use Rattle.spec_page.specs.ContractPart.{no_cell}
use Rattle.draw_page.specs.Texts.{each_text}
use Rattle.draw_page.proofs.ways.no_cells.Given as goal

abbrev pub invariant-loop-column : goal.invariant-loop-column
invariant-loop-column l =
    l.text.items ++ each_text (each_from no_cell l.column (drop l.column l.scene.columns.parties.now))
    ≡ each_text (each_from no_cell 0 l.scene.columns.parties.now)
