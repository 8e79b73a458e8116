use Rattle.std.proofs.Common.{◌≡◌, length}
use Rattle.spec_data.specs.Lists.{are_different}
use Rattle.spec_terms.specs.Precondition.{names_of}
use Rattle.bm_world_events.proofs.advertising.are_different.Given as goal

abbrev pub invariant-loop-first : goal.invariant-loop-first
invariant-loop-first l = are_different (names_of l.rest) ≡ are_different (names_of l.bindings)

abbrev pub decreases-loop-first : goal.decreases-loop-first
decreases-loop-first l = length l.rest
