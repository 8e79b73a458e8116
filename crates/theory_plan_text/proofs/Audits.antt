-- What `audit` prints is read as what it finds.
use Rattle.std.proofs.Common.{◌≡◌, ℕ, ◌≤◌, ◌^◌, List, [], ◌∷◌, length, Option, Some, None, refl, sym, ap, subst, ◌∙◌, arith}
use Rattle.spec_run.specs.declared.event.Event.{Event}
use Rattle.spec_run.specs.Compiled.{compiled_instance}
use Rattle.spec_run.specs.Event.{opening_collision}
use Rattle.spec_run.specs.Setup.{Setup}
use Rattle.spec_run.specs.Statements.{IsRun}
use Rattle.spec_run.specs.Translation.{last_world, last_configuration, first_halt}
use Rattle.spec_text.specs.Lines.{lines_of}
use Rattle.spec_text.specs.PlayText.{Ending, whole, guessed, collided}
use Rattle.spec_text.specs.Played.{ending_from, ending}
use Rattle.spec_tool.specs.Answers.{unless_stopped, audited_file}
use Rattle.spec_tool.specs.Audit.{listed_in, findings_from, audit_report, audit_collision}
use Rattle.spec_tool.specs.AuditText.{audit_text, audited, audit_answer}
use Rattle.spec_tool.specs.Commands.{Printed, setup_of, ending_status}
use Rattle.spec_tool.specs.Reads.{Text}
use Rattle.spec_tool.specs.Sizes.{most_audit_bytes}
use Rattle.theory_text.proofs.Options.{some, some_is}
use Rattle.theory_tool.proofs.Headlines.{valid_runs_are}
use Rattle.theory_auto.proofs.FewOutputs.{last_few}
use Rattle.theory_play_text.proofs.ReadRuns.{IsKnownRun, run_known}
use Rattle.theory_plan_text.specs.Audit.{ShownAudit, report, shown_report, unless_collides, unless_halts, shown_audit, IsAuditable, audit_of}
use Rattle.theory_plan_text.specs.Statements.{IsWithin, AuditsAreRead, SameAuditsShowTheSame}
use Rattle.theory_plan_text.proofs.AuditTexts.{reports_back, unaudited_back, guess_back, collision_back}
use Rattle.theory_plan_text.proofs.AuditedLines.{AreWithin, few_lines, short_lines, findings_shown}
use Rattle.theory_plan_text.proofs.AuditedSigners.{whiches, absent_shown, missing_shown, listed_shown}
use Rattle.theory_plan_text.proofs.Plans.{EndNamed, halts_named, one_contract}

-- ---- an audit after a run can be shown

longer : (n m : ℕ) (ls : List (List ℕ)) → n ≤ m → AreWithin n ls → AreWithin m ls
longer n m [] h k = tt
longer n m (l ∷ ls) h k = (let a = k.0 in omega (arith, h, a), longer n m ls h k.1)

pub auditable : (s : Setup) (es : List Event) → IsRun s es → length es ≤ 10000 → (text : List ℕ) → length text ≤ most_audit_bytes
    → IsAuditable (audit_report s (last_world s es) 0 text)
auditable s es run few text within =
    let w = last_world s es in
    let all = listed_in s w 0 in
    let shown = listed_shown s es run (compiled_instance s w 0) refl in
    let outputs = last_few s es run in
    let lines = few_lines text in
    let short = longer (length text) (2 ^ 40) (lines_of text) (omega (arith, within)) (short_lines text) in
    let fs = findings_from s w all 1 (lines_of text) in
    record {
      findings = findings_shown s run.setup w (omega (arith, outputs, few)) all (whiches all shown) 1 (lines_of text)
          (omega (arith, lines, within)) short;
      absent = absent_shown all fs shown;
      missing = missing_shown s.hash w.book all shown;
    }

-- ---- audits

abbrev some_audit : ShownAudit → Option ShownAudit
some_audit x = some x

answer_back : (o : Option (List ℕ × List ℕ)) (text : List ℕ) (shown : ShownAudit) → audit_of text ≡ some_audit shown
    → audit_of (audited o text).text ≡ some_audit (unless_collides o shown)
answer_back None text shown h = h
answer_back (Some pair) text shown h = collision_back (pair.0) (pair.1)

audited_back : (s : Setup) (es : List Event) → IsRun s es → length es ≤ 10000 → (text : List ℕ) → length text ≤ most_audit_bytes
    → audit_of (audit_answer text s es).text
    ≡ some_audit (unless_collides (audit_collision s (last_world s es) text)
    (report (shown_report (audit_report s (last_world s es) 0 text) (compiled_instance s (last_world s es) 0))))
unfolding audit_answer
audited_back s es run few text within =
    let w = last_world s es in
    let o = compiled_instance s w 0 in
    answer_back (audit_collision s w text) (audit_text s w text) (report (shown_report (audit_report s w 0 text) o))
    (reports_back (audit_report s w 0 text) o (auditable s es run few text within))

-- of a run that may be halted
whole_back : (end : Ending) (printed : Printed) (shown : ShownAudit) → EndNamed end → audit_of printed.text ≡ some_audit shown
    → audit_of (unless_stopped (ending_status end) end printed).text ≡ some_audit (unless_halts end shown)
whole_back (whole tip live g offers) printed shown h e = e
whole_back (guessed event party secret) printed shown h e = guess_back party secret h.0 h.1
whole_back (collided event earlier later) printed shown h e = collision_back earlier later

pub audit_back : (s : Setup) (es : List Event) → IsKnownRun s.header es → (opening_collision s ≡ None → IsRun s es) → (file : Text)
    → IsWithin file → audit_of (audited_file file s es).text ≡ Some (shown_audit file s es)
audit_back s es known f None within = unaudited_back
audit_back s es known f (Some text) within =
    let w = last_world s es in
    let few = known.events.few in
    by_opening (audit_answer text s es)
    (unless_collides (audit_collision s w text) (report (shown_report (audit_report s w 0 text) (compiled_instance s w 0))))
    (λ run. audited_back s es run (omega (arith, few)) text within) (opening_collision s) refl
  where
    by_opening : (printed : Printed) (shown : ShownAudit) → (IsRun s es → audit_of printed.text ≡ some_audit shown)
        → (p : Option (List ℕ × List ℕ)) → opening_collision s ≡ p
        → audit_of (unless_stopped (ending_status (ending s es)) (ending s es) printed).text ≡ some_audit (unless_halts (ending s es) shown)
    by_opening printed shown back None e = whole_back (ending s es) printed shown (halts_named s es known f) (back (f e))
    by_opening printed shown back (Some p) e =
        subst (λ (o : Option (List ℕ × List ℕ)).
        audit_of (unless_stopped (ending_status (ending_from (last_world s es) (last_configuration s es) o (first_halt s es)))
        (ending_from (last_world s es) (last_configuration s es) o (first_halt s es)) printed).text
        ≡ some_audit (unless_halts (ending_from (last_world s es) (last_configuration s es) o (first_halt s es)) shown))
        (sym e) (collision_back (p.0) (p.1))

pub audits : AuditsAreRead
audits hash bytes run_file contract_file run contract r c file within =
    let all = one_contract contract_file contract c in
    audit_back (setup_of hash run (contract ∷ [])) run.events (run_known run_file run r)
    (λ opens. valid_runs_are hash bytes run_file (contract_file ∷ []) run (contract ∷ []) r all (omega arith) opens) file within

pub same_audits : SameAuditsShowTheSame
same_audits hash bytes a b x y run other contract last r s c d file again within also same =
    some_is (shown_audit file (setup_of hash run (contract ∷ [])) run.events)
    (shown_audit again (setup_of hash other (last ∷ [])) other.events)
    (sym (audits hash bytes a x run contract r s file within) ∙ (ap audit_of same ∙ audits hash bytes b y other last c d again also))
