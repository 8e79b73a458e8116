use Rattle.std.proofs.Common.{◌≡◌, length}
use Rattle.bm_repeats.specs.Repeats.{has_repeat}
use Rattle.bm_repeats.proofs.elements.repeats_pairwise.Given as goal

abbrev pub invariant-loop-first : goal.invariant-loop-first
invariant-loop-first g l = has_repeat g.T.PartialEq.eq l.rest ≡ has_repeat g.T.PartialEq.eq l.elements

abbrev pub decreases-loop-first : goal.decreases-loop-first
decreases-loop-first g l = length l.rest
