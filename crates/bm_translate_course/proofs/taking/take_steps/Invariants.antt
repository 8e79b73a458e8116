use Rattle.std.proofs.Common.{drop}
use Rattle.bm_translate_course.specs.Passing.{after_all}
use Rattle.bm_translate_course.proofs.Taken.{CanTake}
use Rattle.bm_translate_course.proofs.taking.take_steps.Given as goal

-- the rest of the steps can be taken, and leaves what all leave
abbrev pub invariant-loop-step : goal.invariant-loop-step
invariant-loop-step l = CanTake l.running (drop l.step-index l.given) (after_all l.initial.running l.given)
