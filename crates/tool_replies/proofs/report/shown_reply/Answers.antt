use Rattle.std.proofs.Common.{◌≡◌, List, length, sym, ap, subst, ◌∙◌}
use Rattle.std.specs.Prelude.{IfOk}
use Rattle.spec_run.specs.declared.header.Header.{Header}
use Rattle.spec_run.specs.declared.outcome.Record.{Record}
use Rattle.spec_text.specs.PlayText.{report_text}
use Rattle.spec_tool.specs.Commands.{Printed, prints, ending_status}
use Rattle.spec_tool.specs.Replies.{printed}
use Rattle.bm_report.specs.Endings.{ending_of}
use Rattle.bm_report.specs.Entries.{entries_by}
use Rattle.tool_replies.proofs.report.shown_reply.Goals as goal

pub report_reply-reply-requires-clause-each : goal.report_reply-reply-requires-clause-each
report_reply-reply-requires-clause-each g c = c.requires.each ∙ ap length (sym (c.as_slice.ensures ∙ c.into_records-header.ensures.records))

pub returns : goal.returns
returns g c =
    let w = c.args.world in
    let steps = c.args.steps in
    let end = ending_of c.args.end.now in
    subst (λ (p : Printed). IfOk c.report_reply-reply.result (λ reply. printed reply ≡ p))
    (ap (λ (h : Header). prints (ending_status end) (report_text h.deposits (entries_by c.as_slice.result.now steps) end)) c.into_records-header.ensures.header
    ∙ ap (λ (rs : List Record). prints (ending_status end) (report_text w.header.deposits (entries_by rs steps) end))
    (c.as_slice.ensures ∙ c.into_records-header.ensures.records))
    c.report_reply-reply.ensures
