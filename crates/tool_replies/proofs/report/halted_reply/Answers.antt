use Rattle.std.proofs.Common.{◌≡◌, ◌<◌, List, length, Some, get_or, refl, sym, ap, subst, ◌∙◌}
use Rattle.std.specs.Prelude.{slice_get, IfOk}
use Rattle.std.proofs.lemmas.Option.{slice_get_within, slice_get_read}
use Rattle.spec_run.specs.declared.event.Event.{Event}
use Rattle.spec_tool.specs.Commands.{Printed}
use Rattle.spec_tool.specs.Replies.{printed}
use Rattle.bm_report.specs.Endings.{ending_of}
use Rattle.bm_world.specs.Playing.{setup_in}
use Rattle.tool_replies.proofs.Left.{steps_for_each, answered, event_is}
use Rattle.tool_replies.proofs.report.halted_reply.Goals as goal

pub bounds-events-number : goal.bounds-events-number
bounds-events-number g c =
    subst (λ (es : List Event). c.args.number < length es) (sym c.as_slice-events.ensures)
    (slice_get_within c.args.run.events c.args.number (c.requires.stops.0) (c.requires.stops.2))

pub shown_reply-requires-clause-each : goal.shown_reply-requires-clause-each
shown_reply-requires-clause-each g c =
    let digest = g.H.Hash32.digest_of in
    let w = c.args.world in
    steps_for_each digest (setup_in digest w) c.args.run.events w _ c.requires c.in_ok-made.made.steps c.in_ok-made.ensures.steps

pub returns : goal.returns
returns g c =
    let digest = g.H.Hash32.digest_of in
    let w = c.args.world in
    let s = setup_in digest w in
    let es = c.args.run.events in
    let n = c.args.number in
    let e = c.index-events-number.result in
    let end = ending_of c.in_ok-end.end in
    let read : slice_get es n ≡ Some e =
    slice_get_read es (length es) n e refl (slice_get_within es n (c.requires.stops.0) (c.requires.stops.2))
    (c.index-events-number.is ∙ ap (λ (xs : List Event). get_or xs n e) c.as_slice-events.ensures) in
    subst (λ (p : Printed). IfOk c.shown_reply.result (λ reply. printed reply ≡ p))
    (answered digest s es w _ c.requires c.in_ok-made.made.steps end c.in_ok-made.ensures.steps
    (event_is digest s es w n c.args.halt c.requires e end read c.in_ok-end.ensures.ending))
    c.shown_reply.ensures
