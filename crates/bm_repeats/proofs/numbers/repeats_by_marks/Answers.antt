use Rattle.std.specs.Prelude.{◌==◌}
use Rattle.std.proofs.Common.{slice_set, true}
use Rattle.bm_repeats.proofs.Marking.{is_marked, flipped, marked}
use Rattle.bm_repeats.proofs.Meeting.{begun, meet}
use Rattle.bm_repeats.proofs.numbers.repeats_by_marks.Goals as goal

pub loop-first-init : goal.loop-first-init
loop-first-init c = begun (is_marked c.args.marks.now) (λ a b. a == b) c.args.numbers.now c.requires

pub loop-first-preserved : goal.loop-first-preserved
loop-first-preserved c =
    meet (is_marked c.loop-first.marks) (is_marked (slice_set c.loop-first.marks c.in-Some.first.now true)) (λ a b. a == b) (λ a b. a == b)
    c.in-Some.first.now _ _ _ (λ y. flipped _ y) c.in-Some.ensures.cases.0
    c.if-marks-place.false (marked c.loop-first.marks c.in-Some.first.now c.if-place-marks.false) c.loop-first.invariant
