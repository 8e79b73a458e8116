use Rattle.std.proofs.Common.{◌≡◌, List, length, sym, ap, subst, ◌∙◌}
use Rattle.std.specs.Prelude.{IfOk}
use Rattle.spec_run.specs.declared.outcome.Record.{Record}
use Rattle.spec_tool.specs.Commands.{Printed, ending_status}
use Rattle.spec_tool.specs.Replies.{printed}
use Rattle.bm_world.specs.Playing.{setup_in}
use Rattle.tool_replies.proofs.Left.{last_is, steps_for_each, shown_are}
use Rattle.bm_report.specs.Entries.{entries_by}
use Rattle.draw_rows.specs.Halts.{halt_of}
use Rattle.draw_replies.specs.DrawnTexts.{halt_in}
use Rattle.draw_replies.proofs.Drawn.{left_drawn}
use Rattle.draw_replies.proofs.playing.left_reply.Goals as goal

pub entries_by-requires : goal.entries_by-requires
entries_by-requires g c =
    let digest = g.H.Hash32.digest_of in
    let w = c.args.world.now in
    steps_for_each digest (setup_in digest w) c.args.events.now w c.args.stop c.requires c.in_ok-made.made.steps c.in_ok-made.ensures.steps
    ∙ ap length (sym c.trace.ensures.trace)

pub ending_by-requires-clause-last : goal.ending_by-requires-clause-last
ending_by-requires-clause-last g c =
    let digest = g.H.Hash32.digest_of in
    let w = c.args.world.now in
    last_is digest (setup_in digest w) c.args.events.now w c.args.stop c.requires c.in_ok-made.made.last c.in_ok-made.ensures.last

pub returns : goal.returns
returns g c =
    let digest = g.H.Hash32.digest_of in
    let w = c.args.world.now in
    let s = setup_in digest w in
    subst (λ (p : Printed). IfOk c.opened_reply.result (λ reply. printed reply ≡ p))
    (left_drawn s c.args.events.now c.args.form c.args.title.now c.deref.result.now (halt_of c.halted_of-halted.result) c.status_of-status.result
    c.header.result.now c.contracts.result.now c.requires.run.opens
    (shown_are digest s c.args.events.now w c.args.stop c.requires c.in_ok-made.made.steps c.deref.result.now c.in_ok-made.ensures.steps
    (c.deref.ensures.value ∙ c.in_ok-entries.ensures ∙ ap (λ (records : List Record). entries_by records c.in_ok-made.made.steps) c.trace.ensures.trace))
    (c.halted_of-halted.ensures ∙ ap halt_in c.in_ok-end.ensures.ending)
    (c.status_of-status.ensures ∙ ap ending_status c.in_ok-end.ensures.ending)
    c.header.ensures c.contracts.ensures)
    c.opened_reply.ensures
