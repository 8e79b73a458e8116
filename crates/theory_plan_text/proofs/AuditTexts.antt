-- The text of an audit is that of its lines, and these are gathered to what it shows.
use Rattle.std.proofs.Common.{◌≡◌, ℕ, List, [], ◌∷◌, ◌++◌, map, Option, Some, None, refl, sym, ap, ◌∙◌, append_assoc, append-nil}
use Rattle.std.specs.Prelude.{codes, Bool}
use Rattle.std.specs.Fmt.{decimal}
use Rattle.std.specs.List.{AllByRecursion}
use Rattle.spec_data.specs.Digits.{hex_text}
use Rattle.spec_bitcoin.specs.Keys.{label_text}
use Rattle.spec_compiler.specs.Instance.{Instance}
use Rattle.spec_text.specs.PlayText.{guessed_line, collided_line}
use Rattle.spec_text.specs.RunText.{newline}
use Rattle.spec_text.specs.Words.{◌>>=◌}
use Rattle.spec_tool.specs.declared.finding.AuditReport.{AuditReport}
use Rattle.spec_tool.specs.declared.finding.Finding.{Finding}
use Rattle.spec_tool.specs.declared.finding.Kind.{Kind}
use Rattle.spec_tool.specs.declared.finding.Kind.TheVariants as kinds
use Rattle.spec_tool.specs.declared.finding.Now.{Now}
use Rattle.spec_tool.specs.declared.finding.Now.TheVariants as nows
use Rattle.spec_tool.specs.declared.which.Which.{Which}
use Rattle.spec_tool.specs.declared.which.Which.TheVariants as names
use Rattle.spec_tool.specs.Audit.{Missing}
use Rattle.spec_tool.specs.AuditText.{now_text, kind_text, finding_line, absent_line, missing_line, report_text, uncompiled_text, audit_refused}
use Rattle.spec_tool.specs.Listed.{which_text}
use Rattle.theory_text.proofs.Options.{some}
use Rattle.theory_play_text.specs.Printable.{IsNamed}
use Rattle.theory_play_text.proofs.LineWords.{line_of, spaced_each, then_line}
use Rattle.theory_plan_text.specs.AuditLines.{AuditLine, audit_said}
use Rattle.theory_plan_text.specs.AuditLines as line
use Rattle.theory_plan_text.specs.Audit.{ShownFinding, ShownAudit, report, unaudited, guess, collision, shown_now, shown_names}
use Rattle.theory_plan_text.specs.Audit.{shown_kind, shown_finding, is_compiled, shown_report, IsShownNow, IsShownKind, IsShownFinding}
use Rattle.theory_plan_text.specs.Audit.{IsShownMissing, IsAuditable, onto_shown, gathered, audit_of}
use Rattle.theory_plan_text.specs.PlanLines.{IsWhich}
use Rattle.theory_plan_text.specs.Statements.{ReportsReadBack}
use Rattle.theory_plan_text.proofs.AnyLines.{line_text, text_of, text_append, text_map, text_back, two_words, three_words}
use Rattle.theory_plan_text.proofs.AuditRead.{refusal_line, now_words, kind_word, kind_rest, AreShown, IsKind, IsNow, IsSaid, written}
use Rattle.theory_plan_text.proofs.AuditRead.{words_plain, words_back}

-- ---- the lines of a report

abbrev finding_said : Finding → AuditLine
finding_said f = line.finding f.line (shown_kind f.kind)

abbrev missing_said : Missing → AuditLine
missing_said m = line.missing (m.0) (m.1) (m.2)

abbrev absent_said : Which → AuditLine
absent_said which = line.absent which

abbrev last_said : Option Instance → List AuditLine
last_said None = line.uncompiled ∷ []
last_said (Some instance) = []

abbrev report_said : AuditReport → Option Instance → List AuditLine
report_said r instance =
    map finding_said r.findings ++ (map absent_said r.absent ++ (map missing_said r.missing ++ last_said instance))

abbrev lines_text : List AuditLine → List ℕ
lines_text ls = text_of written ls

-- ---- their text

now_line : (n : Now) → now_text n ≡ line_of (codes "now" ∷ now_words (shown_now n))
now_line (nows.Init contract) = refl
now_line (nows.Branch output branch) = refl
now_line nows.Move = refl
now_line (nows.Refused r) = ap (λ (t : List ℕ). codes "now refused " ++ t) (refusal_line r)

kind_line : (k : Kind) → kind_text k ≡ line_of (kind_word (shown_kind k) ∷ kind_rest (shown_kind k))
kind_line kinds.NotHex = refl
kind_line (kinds.Bad place) = refl
kind_line (kinds.Read [] now) = ap (λ (t : List ℕ). codes "foreign " ++ t) (now_line now)
kind_line (kinds.Read (names.Init ∷ others) now) = ap (λ (t : List ℕ). codes "init " ++ t) (now_line now)
kind_line (kinds.Read (names.At path ∷ others) now) =
    let all = names.At path ∷ others in
    append_assoc (codes "path") (spaced_each which_text all) (32 ∷ now_text now)
    ∙ ap (λ (t : List ℕ). codes "path" ++ (spaced_each which_text all ++ (32 ∷ t))) (now_line now)
    ∙ then_line which_text (codes "path") all (codes "now") (now_words (shown_now now))

finding_text : (f : Finding) → finding_line f ≡ line_text written (finding_said f) ++ newline
finding_text f =
    ap (λ (t : List ℕ). codes "line " ++ t)
    (two_words (decimal f.line) (kind_text f.kind) newline
    ∙ ap (λ (t : List ℕ). (decimal f.line ++ (32 ∷ t)) ++ newline) (kind_line f.kind))

absent_text : (which : Which) → absent_line which ≡ line_text written (absent_said which) ++ newline
absent_text which = refl

missing_text : (m : Missing) → missing_line m ≡ line_text written (missing_said m) ++ newline
missing_text m = ap (λ (t : List ℕ). codes "missing " ++ t) (three_words (which_text m.0) (decimal m.1) (label_text m.2) newline)

last_text : (instance : Option Instance) → uncompiled_text instance ≡ lines_text (last_said instance)
last_text None = refl
last_text (Some instance) = refl

report_lined : (r : AuditReport) (instance : Option Instance)
    → report_text r ++ uncompiled_text instance ≡ lines_text (report_said r instance)
report_lined r instance =
    let findings = map finding_said r.findings in
    let absent = map absent_said r.absent in
    let missing = map missing_said r.missing in
    let last = last_said instance in
    (λ i. (text_map written finding_said finding_line finding_text r.findings i
    ++ (text_map written absent_said absent_line absent_text r.absent i
    ++ text_map written missing_said missing_line missing_text r.missing i)) ++ last_text instance i)
    ∙ append_assoc (lines_text findings) (lines_text absent ++ lines_text missing) (lines_text last)
    ∙ ap (λ (t : List ℕ). lines_text findings ++ t)
    (append_assoc (lines_text absent) (lines_text missing) (lines_text last)
    ∙ ap (λ (t : List ℕ). lines_text absent ++ t) (sym (text_append written missing last))
    ∙ sym (text_append written absent (missing ++ last)))
    ∙ sym (text_append written findings (absent ++ (missing ++ last)))

-- ---- they may be said

names_fine : (which : List Which) → AllByRecursion IsWhich which → AreShown (shown_names which)
names_fine [] h = tt
names_fine (names.Init ∷ others) h = refl
names_fine (names.At path ∷ others) h = h

now_fine : (n : Now) → IsShownNow n → IsNow (shown_now n)
now_fine (nows.Init contract) h = tt
now_fine (nows.Branch output branch) h = h
now_fine nows.Move h = tt
now_fine (nows.Refused r) h = h

kind_fine : (k : Kind) → IsShownKind k → IsKind (shown_kind k)
kind_fine kinds.NotHex h = tt
kind_fine (kinds.Bad place) h = h
kind_fine (kinds.Read which now) h = (names_fine which h.0, now_fine now h.1)

module _ {X : Type 0} (P : X → Type 0) (say : X → AuditLine) (fine : (x : X) → P x → IsSaid (say x)) where
  map_fine : (xs : List X) (ls : List AuditLine) → AllByRecursion P xs → AllByRecursion IsSaid ls → AllByRecursion IsSaid (map say xs ++ ls)
  map_fine [] ls h k = k
  map_fine (x ∷ xs) ls h k = (fine x h.0, map_fine xs ls h.1 k)

last_fine : (instance : Option Instance) → AllByRecursion IsSaid (last_said instance)
last_fine None = (tt, tt)
last_fine (Some instance) = tt

report_fine : (r : AuditReport) (instance : Option Instance) → IsAuditable r → AllByRecursion IsSaid (report_said r instance)
report_fine r instance h =
    map_fine IsShownFinding finding_said (λ f k. (k.0, kind_fine f.kind k.1)) r.findings _ h.findings
    (map_fine IsWhich absent_said (λ which k. k) r.absent _ h.absent
    (map_fine IsShownMissing missing_said (λ m k. k) r.missing _ h.missing (last_fine instance)))

-- ---- they are gathered

abbrev some_audit : ShownAudit → Option ShownAudit
some_audit x = some x

abbrev found : List ShownFinding → List Which → List Missing → Bool → ShownAudit
found findings absent missing compiled =
    report (record { findings = findings; absent = absent; missing = missing; compiled = compiled })

last_gathered : (instance : Option Instance) → gathered (last_said instance) ≡ some_audit (found [] [] [] (is_compiled instance))
last_gathered None = refl
last_gathered (Some instance) = refl

module _ (c : Bool) where
  missing_gathered : (ms : List Missing) (ls : List AuditLine) → gathered ls ≡ some_audit (found [] [] [] c)
      → gathered (map missing_said ms ++ ls) ≡ some_audit (found [] [] ms c)
  missing_gathered [] ls h = h
  missing_gathered (m ∷ ms) ls h = ap (λ (o : Option ShownAudit). o >>= onto_shown (missing_said m)) (missing_gathered ms ls h)

  absent_gathered : (as' : List Which) (ms : List Missing) (ls : List AuditLine) → gathered ls ≡ some_audit (found [] [] ms c)
      → gathered (map absent_said as' ++ ls) ≡ some_audit (found [] as' ms c)
  absent_gathered [] ms ls h = h
  absent_gathered (a ∷ as') ms ls h = ap (λ (o : Option ShownAudit). o >>= onto_shown (absent_said a)) (absent_gathered as' ms ls h)

  findings_gathered : (fs : List Finding) (as' : List Which) (ms : List Missing) (ls : List AuditLine)
      → gathered ls ≡ some_audit (found [] as' ms c) → gathered (map finding_said fs ++ ls) ≡ some_audit (found (map shown_finding fs) as' ms c)
  findings_gathered [] as' ms ls h = h
  findings_gathered (f ∷ fs) as' ms ls h =
      ap (λ (o : Option ShownAudit). o >>= onto_shown (finding_said f)) (findings_gathered fs as' ms ls h)

report_gathered : (r : AuditReport) (instance : Option Instance)
    → gathered (report_said r instance) ≡ some_audit (report (shown_report r instance))
report_gathered r instance =
    let c = is_compiled instance in
    let last = last_said instance in
    findings_gathered c r.findings r.absent r.missing (map absent_said r.absent ++ (map missing_said r.missing ++ last))
    (absent_gathered c r.absent r.missing (map missing_said r.missing ++ last)
    (missing_gathered c r.missing last (last_gathered instance)))

-- ---- the whole text

read_back : (ls : List AuditLine) (shown : ShownAudit) → AllByRecursion IsSaid ls → gathered ls ≡ some_audit shown
    → audit_of (lines_text ls) ≡ some_audit shown
unfolding audit_of
read_back ls shown h e = ap (λ o. o >>= gathered) (text_back written audit_said IsSaid words_plain words_back ls h) ∙ e

pub reports_back : ReportsReadBack
reports_back r instance h =
    ap audit_of (report_lined r instance)
    ∙ read_back (report_said r instance) (report (shown_report r instance)) (report_fine r instance h) (report_gathered r instance)

pub unaudited_back : audit_of audit_refused.text ≡ some_audit unaudited
unaudited_back = read_back (line.unaudited ∷ []) unaudited (tt, tt) refl

pub guess_back : (party name : List ℕ) → IsNamed party → IsNamed name
    → audit_of (guessed_line party name) ≡ some_audit (guess party name)
guess_back party name h k =
    ap (λ (r : List ℕ). audit_of (codes "guessed " ++ r)) (two_words party name newline ∙ sym (append-nil _))
    ∙ read_back (line.guessed party name ∷ []) (guess party name) ((h, k), tt) refl

pub collision_back : (earlier later : List ℕ) → audit_of (collided_line earlier later) ≡ some_audit (collision earlier later)
collision_back earlier later =
    ap (λ (r : List ℕ). audit_of (codes "collided " ++ r)) (two_words (hex_text earlier) (hex_text later) newline ∙ sym (append-nil _))
    ∙ read_back (line.collided earlier later ∷ []) (collision earlier later) (tt, tt) refl
