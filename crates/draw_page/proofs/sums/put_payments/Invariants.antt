use Rattle.std.proofs.Common.{◌≡◌, ◌+◌, ◌++◌, drop}
use Rattle.spec_page.specs.ContractPart.{sums_to}
use Rattle.draw_page.specs.Texts.{spaced_text}
use Rattle.draw_page.specs.Scenes.{scene_of}
use Rattle.draw_page.proofs.sums.put_payments.Given as goal

abbrev pub invariant-loop-index : goal.invariant-loop-index
invariant-loop-index l =
    l.out.items ++ spaced_text (sums_to (scene_of l.scene) l.party (l.part + l.index) (drop l.index l.payments))
    ≡ l.initial.out.items ++ spaced_text (sums_to (scene_of l.scene) l.party l.part l.payments)
