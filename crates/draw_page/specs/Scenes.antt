-- What is drawn as the definitions see it.
use Rattle.spec_page.specs.Cells.{Columns as PlainColumns}
use Rattle.spec_page.specs.ContractPart.{Scene as PlainScene}
use Rattle.draw_page.specs.declared.scene.Columns.{Columns}
use Rattle.draw_page.specs.declared.scene.Scene.{Scene}

abbrev pub columns_of : Columns → PlainColumns
columns_of c = record { parties = c.parties.now; elsewhere = c.elsewhere }

abbrev pub scene_of : Scene → PlainScene
scene_of s = record { columns = columns_of s.columns; several = s.several; contract = s.contract; rows = s.rows.now }
