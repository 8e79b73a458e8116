use Rattle.std.proofs.Common.{◌≡◌, length, None, ap, subst, ◌∙◌}
use Rattle.std.specs.Prelude.{IfOk}
use Rattle.spec_tool.specs.Commands.{Printed}
use Rattle.spec_tool.specs.Replies.{printed}
use Rattle.bm_report.specs.Endings.{ending_of}
use Rattle.bm_translate_course.specs.Courses.{events_of}
use Rattle.bm_world.specs.Playing.{setup_in}
use Rattle.tool_replies.proofs.Left.{last_is_numbered, steps_for_each, answered, whole_ends}
use Rattle.tool_replies.proofs.report.whole_reply.Goals as goal

pub whole_ending-requires : goal.whole_ending-requires
whole_ending-requires g c =
    let digest = g.H.Hash32.digest_of in
    let w = c.args.world in
    last_is_numbered digest (setup_in digest w) (events_of w.trace) w None c.requires c.in_ok-made.made.last c.in_ok-made.ensures.last

pub shown_reply-requires-clause-each : goal.shown_reply-requires-clause-each
shown_reply-requires-clause-each g c =
    let digest = g.H.Hash32.digest_of in
    let w = c.args.world in
    steps_for_each digest (setup_in digest w) (events_of w.trace) w None c.requires c.in_ok-made.made.steps c.in_ok-made.ensures.steps

pub returns : goal.returns
returns g c =
    let digest = g.H.Hash32.digest_of in
    let w = c.args.world in
    let s = setup_in digest w in
    let es = events_of w.trace in
    let made = c.in_ok-made.made in
    let end = ending_of c.in_ok-end.end in
    subst (λ (p : Printed). IfOk c.shown_reply.result (λ reply. printed reply ≡ p))
    (answered digest s es w None c.requires c.in_ok-made.made.steps end c.in_ok-made.ensures.steps
    (whole_ends digest s es w c.requires c.ledger.result.now made.last end c.ledger.ensures c.in_ok-made.ensures.last c.in_ok-end.ensures.whole))
    c.shown_reply.ensures
