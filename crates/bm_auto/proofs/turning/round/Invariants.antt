use Rattle.std.proofs.Common.{drop}
use Rattle.bm_auto.specs.Turning.{Midway}
use Rattle.bm_auto.proofs.Steps.{lent}
use Rattle.bm_auto.proofs.turning.round.Given as goal

abbrev pub invariant-loop-rule : goal.invariant-loop-rule
invariant-loop-rule g l =
    Midway g.H.Hash32.digest_of l.initial.world l.world (lent l.rules) (lent l.left.items) (lent (drop l.rule-index l.rules))
    l.initial.events.items l.events.items
