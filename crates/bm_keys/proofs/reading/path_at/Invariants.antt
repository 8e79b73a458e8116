use Rattle.std.proofs.Common.{length}
use Rattle.bm_keys.proofs.Steps.{AreRead}
use Rattle.bm_keys.proofs.reading.path_at.Given as goal

abbrev pub invariant-loop-after : goal.invariant-loop-after
invariant-loop-after l = AreRead l.fn.text l.steps.items l.rest

abbrev pub decreases-loop-after : goal.decreases-loop-after
decreases-loop-after l = length l.rest
