use Rattle.std.proofs.Common.{◌≡◌, ◌||◌, length}
use Rattle.std.specs.List.{list_any}
use Rattle.std.specs.BTreeSet.{contains}
use Rattle.bm_repeats.specs.Repeats.{has_repeat}
use Rattle.bm_repeats.proofs.elements.repeats_by_order.Given as goal

abbrev pub invariant-loop-first : goal.invariant-loop-first
invariant-loop-first g l =
    list_any (contains g.T.Ord.cmp l.seen) l.rest || has_repeat g.T.PartialEq.eq l.rest ≡ has_repeat g.T.PartialEq.eq l.elements

abbrev pub decreases-loop-first : goal.decreases-loop-first
decreases-loop-first g l = length l.rest
