use Rattle.std.proofs.Common.{◌∙◌}
use Rattle.spec_run.specs.Translation.{translated, last_configuration}
use Rattle.spec_text.specs.PlanText.{step_count}
use Rattle.bm_translate_course.specs.Courses.{events_of}
use Rattle.bm_translate_course.proofs.FromWorld.{played_there, same_setup}
use Rattle.bm_translate_course.proofs.counting.count_steps.Goals as goal

pub count_run-requires : goal.count_run-requires
count_run-requires g c = record {
  run = played_there g.H.Hash32.digest_of c.trail.result.now c.board.result.now c.trace.result.now c.args.world.now c.trail.ensures
      c.trace.ensures.trace c.board.ensures.is;
}

pub returns-clause-steps : goal.returns-clause-steps
returns-clause-steps g c =
    let e = same_setup g.H.Hash32.digest_of c.trail.result.now c.board.result.now c.args.world.now c.trail.ensures c.board.ensures.header c.board.ensures.contracts in
    c.in_ok-made.ensures.steps ∙ (λ i. step_count (translated (e i) (events_of (c.trace.ensures.trace i))))

pub returns-clause-last : goal.returns-clause-last
returns-clause-last g c =
    let e = same_setup g.H.Hash32.digest_of c.trail.result.now c.board.result.now c.args.world.now c.trail.ensures c.board.ensures.header c.board.ensures.contracts in
    c.in_ok-made.ensures.last ∙ (λ i. last_configuration (e i) (events_of (c.trace.ensures.trace i)))
