use Rattle.std.proofs.Common.{◌∙◌, subst}
use Rattle.spec_run.specs.Statements.{Simulates, HoldsThroughout, licensed}
use Rattle.spec_run.specs.Translation.{translated, last_configuration}
use Rattle.bm_world.specs.Playing.{setup_in}
use Rattle.bm_translate_course.specs.Courses.{events_of}
use Rattle.bm_translate_course.proofs.FromWorld.{played_there, same_setup}
use Rattle.bm_translate_course.proofs.translating.translate.Goals as goal

pub translate_run-requires : goal.translate_run-requires
translate_run-requires g c = record {
  run = played_there g.H.Hash32.digest_of c.trail.result.now c.board.result.now c.trace.result.now c.args.world.now c.trail.ensures
      c.trace.ensures.trace c.board.ensures.is;
}

pub returns-clause-steps : goal.returns-clause-steps
returns-clause-steps g c =
    let e = same_setup g.H.Hash32.digest_of c.trail.result.now c.board.result.now c.args.world.now c.trail.ensures c.board.ensures.header c.board.ensures.contracts in
    c.in_ok-made.ensures.steps ∙ (λ i. translated (e i) (events_of (c.trace.ensures.trace i)))

pub returns-clause-last : goal.returns-clause-last
returns-clause-last g c =
    let e = same_setup g.H.Hash32.digest_of c.trail.result.now c.board.result.now c.args.world.now c.trail.ensures c.board.ensures.header c.board.ensures.contracts in
    c.in_ok-made.ensures.last ∙ (λ i. last_configuration (e i) (events_of (c.trace.ensures.trace i)))

pub returns-clause-simulated : goal.returns-clause-simulated
returns-clause-simulated g c =
    let e = same_setup g.H.Hash32.digest_of c.trail.result.now c.board.result.now c.args.world.now c.trail.ensures c.board.ensures.header c.board.ensures.contracts in
    subst (λ t. Simulates (setup_in g.H.Hash32.digest_of c.args.world.now) (events_of t)) c.trace.ensures.trace
    (subst (λ s. Simulates s (events_of c.trace.result.now)) e c.in_ok-made.ensures.simulated)

pub returns-clause-licensed : goal.returns-clause-licensed
returns-clause-licensed g c =
    let e = same_setup g.H.Hash32.digest_of c.trail.result.now c.board.result.now c.args.world.now c.trail.ensures c.board.ensures.header c.board.ensures.contracts in
    subst (λ t. HoldsThroughout (setup_in g.H.Hash32.digest_of c.args.world.now) (licensed (setup_in g.H.Hash32.digest_of c.args.world.now)) (events_of t))
    c.trace.ensures.trace
    (subst (λ s. HoldsThroughout s (licensed s) (events_of c.trace.result.now)) e c.in_ok-made.ensures.licensed)
