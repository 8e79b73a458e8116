-- What `audit` prints.
use Rattle.std.specs.Prelude.{ℕ, List, [], ◌∷◌, ◌++◌, Option, Some, None, codes}
use Rattle.std.specs.Fmt.{decimal}
use Rattle.std.specs.List.{flat_map}
use Rattle.spec_bitcoin.specs.Keys.{label_text}
use Rattle.spec_compiler.specs.Instance.{Instance}
use Rattle.spec_run.specs.Setup.{Setup}
use Rattle.spec_run.specs.World.{World}
use Rattle.spec_run.specs.Compiled.{compiled_instance}
use Rattle.spec_run.specs.declared.event.Event.{Event}
use Rattle.spec_run.specs.Translation.{last_world}
use Rattle.spec_text.specs.RunText.{newline, output_text}
use Rattle.spec_text.specs.OutcomeText.{refusal_text}
use Rattle.spec_text.specs.PlayText.{collided_line}
use Rattle.spec_tool.specs.declared.which.Which.{Which}
use Rattle.spec_tool.specs.declared.which.Which.TheVariants as names
use Rattle.spec_tool.specs.declared.finding.Now.{Now}
use Rattle.spec_tool.specs.declared.finding.Now.TheVariants as nows
use Rattle.spec_tool.specs.declared.finding.Kind.{Kind}
use Rattle.spec_tool.specs.declared.finding.Kind.TheVariants as kinds
use Rattle.spec_tool.specs.declared.finding.Finding.{Finding}
use Rattle.spec_tool.specs.declared.finding.AuditReport.{AuditReport}
use Rattle.spec_tool.specs.Commands.{Printed, prints}
use Rattle.spec_tool.specs.Listed.{which_text}
use Rattle.spec_tool.specs.PsbtText.{not_compiled_line}
use Rattle.spec_tool.specs.Audit.{Missing, audit_report, audit_collision}

-- ---- findings

abbrev pub now_text : Now → List ℕ
now_text (nows.Init contract) = codes "now init"
now_text (nows.Branch output branch) = codes "now branch " ++ (output_text output ++ (codes " " ++ decimal branch))
now_text nows.Move = codes "now move"
now_text (nows.Refused refusal) = codes "now refused " ++ refusal_text refusal

-- `init`, or the paths behind `path`, or `foreign`; no path's transaction is the initial one, so that stands alone
abbrev pub names_text : List Which → List ℕ
names_text [] = codes "foreign"
names_text (names.Init ∷ others) = codes "init"
names_text (names.At path ∷ others) = codes "path" ++ flat_map (λ which. codes " " ++ which_text which) (names.At path ∷ others)

abbrev pub kind_text : Kind → List ℕ
kind_text kinds.NotHex = codes "nothex"
kind_text (kinds.Bad place) = codes "bad " ++ decimal place
kind_text (kinds.Read which now) = names_text which ++ (codes " " ++ now_text now)

abbrev pub finding_line : Finding → List ℕ
finding_line f = codes "line " ++ (decimal f.line ++ (codes " " ++ (kind_text f.kind ++ newline)))

-- ---- lists

abbrev pub absent_line : Which → List ℕ
absent_line which = codes "absent " ++ (which_text which ++ newline)

abbrev pub missing_line : Missing → List ℕ
missing_line m = codes "missing " ++ (which_text (m.0) ++ (codes " " ++ (decimal (m.1) ++ (codes " " ++ (label_text (m.2) ++ newline)))))

abbrev pub report_text : AuditReport → List ℕ
report_text r = flat_map finding_line r.findings ++ (flat_map absent_line r.absent ++ flat_map missing_line r.missing)

-- the last line, where the contract isn't compiled
abbrev pub uncompiled_text : Option Instance → List ℕ
uncompiled_text None = not_compiled_line
uncompiled_text (Some instance) = []

-- ---- the answer

abbrev pub audit_text : Setup → World → List ℕ → List ℕ
audit_text s w text = report_text (audit_report s w 0 text) ++ uncompiled_text (compiled_instance s w 0)

abbrev pub audited : Option (List ℕ × List ℕ) → List ℕ → Printed
audited (Some pair) text = prints 8 (collided_line (pair.0) (pair.1))
audited None text = prints 0 text

-- what `audit` answers of a run that isn't halted
unfoldable pub audit_answer : List ℕ → Setup → List Event → Printed
audit_answer text s es = audited (audit_collision s (last_world s es) text) (audit_text s (last_world s es) text)

abbrev pub audit_refused : Printed
audit_refused = prints 10 (codes "audit refused" ++ newline)
