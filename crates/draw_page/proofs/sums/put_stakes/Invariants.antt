use Rattle.std.proofs.Common.{◌≡◌, ◌++◌, drop}
use Rattle.spec_page.specs.ContractPart.{stake_elements}
use Rattle.draw_page.specs.Texts.{spaced_text}
use Rattle.draw_page.specs.Scenes.{scene_of}
use Rattle.draw_page.proofs.sums.put_stakes.Given as goal

abbrev pub invariant-loop-stake : goal.invariant-loop-stake
invariant-loop-stake l =
    l.out.items ++ spaced_text (stake_elements (scene_of l.scene) l.part l.party (drop l.stake-index l.stakes))
    ≡ l.initial.out.items ++ spaced_text (stake_elements (scene_of l.scene) l.part l.party l.stakes)
