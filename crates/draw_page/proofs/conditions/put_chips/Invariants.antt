use Rattle.std.proofs.Common.{◌≡◌, ◌+◌, ◌++◌, drop}
use Rattle.spec_page.specs.ContractPart.{chips}
use Rattle.draw_page.specs.Texts.{spaced_text}
use Rattle.draw_page.specs.Scenes.{scene_of}
use Rattle.draw_page.proofs.conditions.put_chips.Given as goal

abbrev pub invariant-loop-index : goal.invariant-loop-index
invariant-loop-index l =
    l.out.items ++ spaced_text (chips (scene_of l.scene) (l.part + l.index) (drop l.index l.conditions))
    ≡ l.initial.out.items ++ spaced_text (chips (scene_of l.scene) l.part l.conditions)
