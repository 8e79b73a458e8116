use Rattle.std.proofs.Common.{◌≡◌, ◌+◌, ◌++◌, sym, subst}
use Rattle.std.specs.Prelude.{OnOk}
use Rattle.spec_text.specs.PlayText.{event_line}
use Rattle.bm_report.proofs.Recorded.{length-entries_by}
use Rattle.bm_report.proofs.halted.put_next_line.Goals as goal

pub returns : goal.returns
returns c =
    subst (λ n. OnOk c.put_event_line.result (c.put_event_line.new.out.items ≡ c.args.out.now.items ++ event_line (n + 1) c.args.event.now))
    (sym (length-entries_by c.args.records.now c.args.steps.now c.requires)) c.put_event_line.ensures
