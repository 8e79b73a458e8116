use Rattle.std.proofs.Common.{◌≡◌, ◌||◌, length}
use Rattle.std.specs.Prelude.{◌==◌}
use Rattle.std.specs.List.{list_any}
use Rattle.bm_repeats.specs.Repeats.{has_repeat}
use Rattle.bm_repeats.proofs.Marking.{is_marked}
use Rattle.bm_repeats.proofs.numbers.repeats_by_marks.Given as goal

abbrev pub invariant-loop-first : goal.invariant-loop-first
invariant-loop-first l =
    list_any (is_marked l.marks) l.rest || has_repeat (λ a b. a == b) l.rest ≡ has_repeat (λ a b. a == b) l.numbers

abbrev pub decreases-loop-first : goal.decreases-loop-first
decreases-loop-first l = length l.rest
