-- What is printed of an audit, read from its text: what is found in each line of the file, what is absent and what is missing, or what
-- stands in the place of these.
use Rattle.std.specs.Prelude.{ℕ, ◌<◌, ◌^◌, List, [], ◌∷◌, map, Bool, true, false, not, ◌&&◌, Option, Some, None}
use Rattle.std.specs.List.{AllByRecursion}
use Rattle.spec_bitcoin.specs.declared.label.Label.{Label}
use Rattle.spec_bitcoin.specs.declared.label.Label.TheVariants as labels
use Rattle.spec_bitcoin.specs.Keys.{IsStep}
use Rattle.spec_compiler.specs.Instance.{Instance}
use Rattle.spec_run.specs.declared.event.Event.{Event}
use Rattle.spec_run.specs.Compiled.{compiled_instance}
use Rattle.spec_run.specs.Setup.{Setup}
use Rattle.spec_run.specs.Translation.{last_world}
use Rattle.spec_text.specs.EventLines.{is_some_list}
use Rattle.spec_text.specs.Lines.{lines_of}
use Rattle.spec_text.specs.OutcomeText.{faulty_input}
use Rattle.spec_text.specs.PlayText.{Ending}
use Rattle.spec_text.specs.PlayText as print
use Rattle.spec_text.specs.Played.{ending}
use Rattle.spec_text.specs.Words.{◌>>=◌, given, all_of}
use Rattle.spec_tool.specs.declared.finding.AuditReport.{AuditReport}
use Rattle.spec_tool.specs.declared.finding.Finding.{Finding}
use Rattle.spec_tool.specs.declared.finding.Kind.{Kind}
use Rattle.spec_tool.specs.declared.finding.Kind.TheVariants as kinds
use Rattle.spec_tool.specs.declared.finding.Now.{Now}
use Rattle.spec_tool.specs.declared.finding.Now.TheVariants as nows
use Rattle.spec_tool.specs.declared.which.Which.{Which}
use Rattle.spec_tool.specs.declared.which.Which.TheVariants as names
use Rattle.spec_tool.specs.Audit.{Missing, audit_report, audit_collision}
use Rattle.spec_tool.specs.Reads.{Text}
use Rattle.theory_play_text.specs.Printable.{IsWide, IsNamed, IsLength}
use Rattle.theory_plan_text.specs.AuditLines.{ShownNow, ShownKind, AuditLine, audit_line}
use Rattle.theory_plan_text.specs.AuditLines as line
use Rattle.theory_plan_text.specs.PlanLines.{IsWhich}

-- ---- what an audit shows

-- a line of the file by its number, and what it is
abbrev pub ShownFinding : Type 0
ShownFinding = ℕ × ShownKind

-- all that is found, what is absent and missing, in order, and whether the contract is compiled
pub record ShownReport : Type 0 where
  pub findings : List ShownFinding
  pub absent : List Which
  pub missing : List Missing
  pub compiled : Bool

pub data ShownAudit : Type 0 where
  report : (report : ShownReport) → ShownAudit
  -- the file is too long
  unaudited : ShownAudit
  guess : (party : List ℕ) → (secret : List ℕ) → ShownAudit
  collision : (earlier : List ℕ) → (later : List ℕ) → ShownAudit

-- ---- what is shown of what is found

abbrev pub shown_now : Now → ShownNow
shown_now (nows.Init contract) = line.initial
shown_now (nows.Branch output branch) = line.takes output branch
shown_now nows.Move = line.moves
shown_now (nows.Refused refusal) = line.refused refusal

-- the initial transaction alone, or all paths
abbrev pub shown_names : List Which → List Which
shown_names [] = []
shown_names (names.Init ∷ others) = names.Init ∷ []
shown_names (names.At path ∷ others) = names.At path ∷ others

abbrev pub shown_kind : Kind → ShownKind
shown_kind kinds.NotHex = line.not_hex
shown_kind (kinds.Bad place) = line.bad place
shown_kind (kinds.Read which now) = line.read (shown_names which) (shown_now now)

abbrev pub shown_finding : Finding → ShownFinding
shown_finding f = (f.line, shown_kind f.kind)

abbrev pub is_compiled : Option Instance → Bool
is_compiled None = false
is_compiled (Some instance) = true

abbrev pub shown_report : AuditReport → Option Instance → ShownReport
shown_report r instance =
    record { findings = map shown_finding r.findings; absent = r.absent; missing = r.missing; compiled = is_compiled instance }

-- the colliding strings alone, where there are some
abbrev pub unless_collides : Option (List ℕ × List ℕ) → ShownAudit → ShownAudit
unless_collides None shown = shown
unless_collides (Some pair) shown = collision (pair.0) (pair.1)

-- a halt alone, where there is one
abbrev pub unless_halts : Ending → ShownAudit → ShownAudit
unless_halts (print.whole tip live g offers) shown = shown
unless_halts (print.guessed event party secret) shown = guess party secret
unless_halts (print.collided event earlier later) shown = collision earlier later

-- of a file after a run with one contract: the file is judged before the events
abbrev pub shown_audit : Text → Setup → List Event → ShownAudit
shown_audit None s es = unaudited
shown_audit (Some text) s es =
    unless_halts (ending s es)
    (unless_collides (audit_collision s (last_world s es) text)
    (report (shown_report (audit_report s (last_world s es) 0 text) (compiled_instance s (last_world s es) 0))))

-- ---- what can be shown

-- numbers are within eight bytes
abbrev pub IsShownNow : Now → Type 0
IsShownNow (nows.Init contract) = Unit {0}
IsShownNow (nows.Branch output branch) = IsWide output × IsWide branch
IsShownNow nows.Move = Unit {0}
IsShownNow (nows.Refused refusal) = IsLength (faulty_input refusal)

abbrev pub IsShownKind : Kind → Type 0
IsShownKind kinds.NotHex = Unit {0}
IsShownKind (kinds.Bad place) = IsWide place
IsShownKind (kinds.Read which now) = AllByRecursion IsWhich which × IsShownNow now

abbrev pub IsShownFinding : Finding → Type 0
IsShownFinding f = IsWide f.line × IsShownKind f.kind

-- a label with numbers of four bytes and a name of contract text
abbrev pub IsShownLabel : Label → Type 0
IsShownLabel (labels.Deposit party) = IsNamed party
IsShownLabel (labels.Branch contract path party) = (contract < 2 ^ 32) × AllByRecursion IsStep path × IsNamed party

abbrev pub IsShownMissing : Missing → Type 0
IsShownMissing m = IsWhich (m.0) × IsWide (m.1) × IsShownLabel (m.2)

pub record IsAuditable (r : AuditReport) : Type 0 where
  pub findings : AllByRecursion IsShownFinding r.findings
  pub absent : AllByRecursion IsWhich r.absent
  pub missing : AllByRecursion IsShownMissing r.missing

-- ---- lines that are gathered, from the last to the first

abbrev pub nothing : ShownReport
nothing = record { findings = []; absent = []; missing = []; compiled = true }

-- no line of these kinds stands behind
abbrev pub no_finding : ShownReport → Bool
no_finding r = not (is_some_list r.findings)

abbrev pub no_absent : ShownReport → Bool
no_absent r = no_finding r && not (is_some_list r.absent)

-- no line stands behind
abbrev pub is_nothing : ShownReport → Bool
is_nothing r = no_absent r && (not (is_some_list r.missing) && r.compiled)

abbrev pub onto_report : AuditLine → ShownReport → Option ShownAudit
onto_report (line.finding n kind) r = Some (report (record r { findings = (n, kind) ∷ r.findings }))
onto_report (line.absent which) r = given (no_finding r) (report (record r { absent = which ∷ r.absent }))
onto_report (line.missing which k label) r = given (no_absent r) (report (record r { missing = (which, k, label) ∷ r.missing }))
onto_report line.uncompiled r = given (is_nothing r) (report (record r { compiled = false }))
onto_report line.unaudited r = given (is_nothing r) unaudited
onto_report (line.guessed party secret) r = given (is_nothing r) (guess party secret)
onto_report (line.collided earlier later) r = given (is_nothing r) (collision earlier later)

-- nothing stands before a line that stands alone
abbrev pub onto_shown : AuditLine → ShownAudit → Option ShownAudit
onto_shown l (report r) = onto_report l r
onto_shown l shown = None

abbrev pub gathered : List AuditLine → Option ShownAudit
gathered [] = Some (report nothing)
gathered (l ∷ lines) = gathered lines >>= onto_shown l

-- what a text prints of an audit: findings, then what is absent, what is missing, and whether the contract isn't compiled
unfoldable pub audit_of : List ℕ → Option ShownAudit
audit_of text = all_of audit_line (lines_of text) >>= gathered
