use Rattle.std.proofs.Common.{◌≡◌, length}
use Rattle.spec_data.specs.Lists.{are_different}
use Rattle.bm_wellformed.proofs.names.are_different.Given as goal

abbrev pub invariant-loop-first : goal.invariant-loop-first
invariant-loop-first l = are_different l.left ≡ are_different l.names

abbrev pub decreases-loop-first : goal.decreases-loop-first
decreases-loop-first l = length l.left
