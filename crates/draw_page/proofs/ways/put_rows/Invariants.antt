use Rattle.std.proofs.Common.{◌≡◌, ◌++◌, drop}
use Rattle.spec_page.specs.ContractPart.{row_elements}
use Rattle.draw_page.specs.Texts.{lines_text}
use Rattle.draw_page.specs.Scenes.{scene_of}
use Rattle.draw_page.proofs.ways.put_rows.Given as goal

abbrev pub invariant-loop-row : goal.invariant-loop-row
invariant-loop-row l =
    l.out.items ++ lines_text (row_elements (scene_of l.scene) l.number (drop l.row-index l.rows))
    ≡ l.initial.out.items ++ lines_text (row_elements (scene_of l.scene) l.part l.rows)
