use Rattle.std.proofs.Common.{◌≡◌, ◌++◌, drop}
use Rattle.spec_page.specs.Page.{contract_bodies}
use Rattle.draw_page.specs.Scenes.{columns_of}
use Rattle.draw_page.specs.Texts.{each_text}
use Rattle.draw_page.proofs.bodies.put_bodies.Given as goal

abbrev pub invariant-loop-contract : goal.invariant-loop-contract
invariant-loop-contract l =
    l.out.items ++ each_text (contract_bodies (columns_of l.columns) l.several l.rows l.contract l.part (drop l.contract l.sheets))
    ≡ l.initial.out.items ++ each_text (contract_bodies (columns_of l.columns) l.several l.rows 0 0 l.sheets)
