use Rattle.std.proofs.Common.{ap, sym, subst, ◌∙◌}
use Rattle.spec_calculus.specs.Steps.{Legal}
use Rattle.bm_world_board.specs.Prepares.{setup_of}
use Rattle.bm_translate_course.specs.Courses.{passed_by}
use Rattle.bm_translate.specs.Shown.{posts_of}
use Rattle.bm_translate_course.proofs.Blocks.{steps_are, passed_are}
use Rattle.bm_translate_course.proofs.walking.pass.Goals as goal

pub pass_blocks-requires : goal.pass_blocks-requires
pass_blocks-requires g c =
    let hash = g.H.Hash32.digest_of c.args.trail.now.hasher in
    let is = c.requires.is in
    let made = steps_are c.args.recorded.now c.in-Some.blocks c.in-Some.ensures.event c.in-Some.ensures.outcome (setup_of hash c.args.board.now)
    is.end.posted c.args.running.now.config is.world is.next in
    record {
      room = c.requires.room;
      enabled = (subst (Legal c.args.running.now.config) made is.legal).0;
      few = rw made at is.room;
    }

pub returns-in-Some : goal.returns-in-Some
returns-in-Some g c = λ f w next turn.
    let hash = g.H.Hash32.digest_of c.args.trail.now.hasher in
    let x = c.args.recorded.now in
    let r = c.args.running.now in
    let held = c.args.board.now.header.secrets in
    let made = c.in_ok-made.ensures.made
    ∙ sym (steps_are x c.in-Some.blocks c.in-Some.ensures.event c.in-Some.ensures.outcome (setup_of hash c.args.board.now) f.posted r.config w next) in (
      made,
      c.in_ok-made.ensures.running ∙ passed_are x c.in-Some.blocks c.in-Some.ensures.event c.in-Some.ensures.outcome held r
          ∙ ap (λ ss. passed_by r ss (posts_of held x)) (sym c.in_ok-made.ensures.made),
    )
