use Rattle.std.proofs.Common.{◌≡◌, ◌++◌, drop}
use Rattle.spec_page.specs.Cells.{each_from}
use Rattle.spec_page.specs.ContractPart.{stake_cell}
use Rattle.draw_page.specs.Texts.{each_text}
use Rattle.draw_page.specs.Scenes.{scene_of}
use Rattle.draw_page.proofs.sums.stake_cells.Given as goal

abbrev pub invariant-loop-column : goal.invariant-loop-column
invariant-loop-column l =
    l.text.items
    ++ each_text (each_from (stake_cell (scene_of l.scene) l.part l.stakes) l.column (drop l.column l.scene.columns.parties.now))
    ≡ each_text (each_from (stake_cell (scene_of l.scene) l.part l.stakes) 0 l.scene.columns.parties.now)
