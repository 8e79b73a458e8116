use Rattle.bm_auto.proofs.Numbers.{LookedFor}
use Rattle.spec_tool.specs.Turns.{standing_from}
use Rattle.bm_auto.proofs.standing.standing_at.Given as goal

abbrev pub invariant-loop-number : goal.invariant-loop-number
invariant-loop-number l = LookedFor l.number l.position l.coins.outputs (standing_from 0 0 l.position l.coins.outputs)
