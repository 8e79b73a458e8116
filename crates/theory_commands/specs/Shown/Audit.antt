-- What `audit` shows of a run, its contract and a file.
use Rattle.std.specs.Prelude.{◌≡◌, ℕ, List, ◌++◌, ◌⊎◌, Some, None}
use Rattle.spec_run.specs.declared.event.Event.{Event}
use Rattle.spec_run.specs.Compiled.{compiled_instance}
use Rattle.spec_run.specs.Setup.{Setup}
use Rattle.spec_run.specs.Translation.{last_world}
use Rattle.spec_text.specs.PlayText.{collided_line}
use Rattle.spec_tool.specs.declared.finding.AuditReport.{AuditReport}
use Rattle.spec_tool.specs.AuditText.{report_text, uncompiled_text, audit_refused}
use Rattle.spec_tool.specs.Commands.{Printed, prints}
use Rattle.spec_tool.specs.Reads.{Text}
use Rattle.theory_audit.specs.Audited.{IsAudit, HaltsAs}
use Rattle.theory_plan_text.specs.Audit.{audit_of, shown_audit}
use Rattle.theory_commands.specs.Files.{IfWhole}

-- nothing collides: what the file's lines are, which transactions are absent and which signatures are missing is written
pub record Finds (s : Setup) (es : List Event) (text : List ℕ) (printed : Printed) : Type 0 where
  pub calm : HaltsAs s (last_world s es) text None
  pub report : AuditReport
  pub is : IsAudit s (last_world s es) 0 text report
  pub answer : printed ≡ prints 0 (report_text report ++ uncompiled_text (compiled_instance s (last_world s es) 0))

-- two strings of the run and of the judged transactions collide, and these are written
pub record AuditHalts (s : Setup) (es : List Event) (text : List ℕ) (printed : Printed) : Type 0 where
  pub earlier : List ℕ
  pub later : List ℕ
  pub collide : HaltsAs s (last_world s es) text (Some (earlier, later))
  pub answer : printed ≡ prints 8 (collided_line earlier later)

-- the file is judged before the events; one that is too long is refused
abbrev pub FindsIf : Text → Setup → List Event → Printed → Type 0
FindsIf None s es printed = printed ≡ audit_refused
FindsIf (Some text) s es printed = IfWhole s es printed (Finds s es text printed ⊎ AuditHalts s es text printed)

-- of a file after a run with its contract
pub record ShowsAudit (file : Text) (s : Setup) (es : List Event) (printed : Printed) : Type 0 where
  pub shown : FindsIf file s es printed
  -- the text is read as all that is found, is absent and is missing, or as what stands in its place
  pub read : audit_of printed.text ≡ Some (shown_audit file s es)
