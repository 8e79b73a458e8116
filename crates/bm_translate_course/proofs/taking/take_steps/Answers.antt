use Rattle.std.proofs.Common.{◌+◌, drop, subst}
use Rattle.bm_translate_course.specs.Passing.{after_all}
use Rattle.bm_translate_course.proofs.Taken.{CanTake, can_room}
use Rattle.bm_translate_course.proofs.Course.{left_of}
use Rattle.bm_translate_course.proofs.taking.take_steps.Goals as goal

pub take_step-requires-clause-room : goal.take_step-requires-clause-room
take_step-requires-clause-room c =
    let all = after_all c.args.running.now c.args.given.now in
    let rest = drop (c.loop-step.step-index + 1) c.args.given.now in
    can_room c.loop-step.running c.step-item.result rest all
    (subst (λ ss. CanTake c.loop-step.running ss all)
    (left_of c.args.given.now c.loop-step.step-index c.step-item.result c.loop-step-test.true c.step-item.is) c.loop-step.invariant)
