-- A run file is read as the run that its lines spell, and is refused for its size or its first fault.
use Rattle.std.proofs.Common.{◌≡◌, ℕ, ◌+◌, ◌≤◌, Bool, true, false, List, [], ◌∷◌, ◌++◌, length, Some}
use Rattle.std.proofs.Common.{None, Ok, Err, refl, sym, ap, subst, ◌∙◌, inl, inr, arith, append-nil}
use Rattle.std.specs.Prelude.{◌↔◌, if◌then◌else◌, nat_lt, Result}
use Rattle.std.proofs.lemmas.Bool.{ltb-false, ltb-true, true_from_ne_false, false_from_ne_true}
use Rattle.spec_run.specs.declared.event.Event.{Event}
use Rattle.spec_run.specs.declared.event.Run.{Run}
use Rattle.spec_run.specs.declared.header.Header.{Header}
use Rattle.spec_text.specs.declared.run_fault.RunFault.{RunFault}
use Rattle.spec_text.specs.declared.run_fault.RunFault.TheVariants as faults
use Rattle.spec_text.specs.declared.run_fault.RunLimit.TheVariants as limits
use Rattle.spec_text.specs.Lines.{lines_of, words_of}
use Rattle.spec_text.specs.Limits.{most_run_bytes}
use Rattle.spec_text.specs.RunFile.{Line, bad, over, rule, no_header, header_words, header_line, kept, Headed, header_step, read_header}
use Rattle.spec_text.specs.RunFile.{read_events, with_header, read_rest, read_run, event_step, event_of_line}
use Rattle.spec_text.specs.Refusals.{Judged, judged_run, run_of}
use Rattle.spec_tool.specs.Answers.{run_in, too_long_run}
use Rattle.spec_tool.specs.Reads.{Text}
use Rattle.theory_commands.specs.RunFiles.{SpellHeader, IsRule, SpellRun, IsWrongHeader, FirstOfHeader, NeverEnds, FirstOfEvents}
use Rattle.theory_commands.specs.RunFiles.{IsNoEvent, IsOneTooMany, IsTooLong, HasRunFault, IsRunFile, HoldsRun, RunRefusal, too_long}
use Rattle.theory_commands.specs.RunFiles.{first, IsRefusedRunText, IsRefusedRun, run_refusal_text, RunFilesAreRead}
use Rattle.theory_commands.proofs.HeaderLines as above
use Rattle.theory_commands.proofs.EventLines as below
use Rattle.theory_commands.proofs.LineParts.{header_back}

abbrev Answer : Type 0
Answer = Result Run RunFault

abbrev a_run : Run → Answer
a_run run = Ok run

abbrev a_fault : RunFault → Answer
a_fault fault = Err fault

-- ---- what is found

abbrev Found : List (List ℕ) → Answer → Type 0
Found lines (Ok run) = SpellRun lines run
Found lines (Err fault) = HasRunFault lines fault

module _ (lines : List (List ℕ)) where
  in_header : (m : ℕ) (wrong : Header → List ℕ → Type 0) → above.Faulty no_header 1 lines m wrong → FirstOfHeader lines m wrong
  in_header m wrong f = record {
    before = f.before;
    line = f.line;
    after = f.after;
    in_order = f.in_order;
    number = omega (arith, f.number);
    header = f.header;
    spelled = f.spelled;
    fault = f.fault;
  }

  never_ends : (m : ℕ) → above.Endless no_header 1 lines m → NeverEnds lines m
  never_ends m f = record { header = f.header; spelled = f.spelled; number = omega (arith, f.number) }

  module _ (headed : Headed) (e : above.Ended no_header 1 lines headed) where
    in_events : (m : ℕ) (wrong : List (List ℕ) → ℕ → List ℕ → Type 0)
        → below.Faulty (headed.0.parties) 0 (headed.2) (headed.1) m wrong → FirstOfEvents lines m wrong
    in_events m wrong f = record {
      above = e.above;
      rule = e.line;
      before = f.before;
      line = f.line;
      after = f.after;
      in_order = e.in_order ∙ ap (λ (xs : List (List ℕ)). e.above ++ e.line ∷ xs) f.in_order;
      number = omega (arith, f.number, e.number);
      header = headed.0;
      spelled = e.spelled;
      ends = e.ends;
      events = f.events;
      events_spelled = f.spelled;
      few = omega (arith, f.few);
      fault =
          let same : 0 + length f.events ≡ length f.events = omega arith in
          subst (λ (c : ℕ). wrong (headed.0.parties) c f.line) same f.fault;
    }

    found_events : (y : below.Answer) → below.Found (headed.0.parties) 0 (headed.2) (headed.1) y → Found lines (with_header (headed.0) y)
    found_events (Ok es) f = record {
      above = e.above;
      rule = e.line;
      below = headed.1;
      in_order = e.in_order;
      header = e.spelled;
      ends = e.ends;
      events = f.0;
      few = omega (arith, f.1);
    }
    found_events (Err (faults.BadLine m)) f = inr (inr (in_events m IsNoEvent f))
    found_events (Err (faults.Limit limits.Line m)) f = inr (in_events m (λ parties count line. IsTooLong line) f)
    found_events (Err (faults.Limit limits.Events m)) f = in_events m IsOneTooMany f
    found_events (Err (faults.Limit limits.Parties m)) f = absurd f
    found_events (Err (faults.Limit limits.Deposits m)) f = absurd f
    found_events (Err (faults.Limit limits.Secrets m)) f = absurd f

  found_rest : (x : Result Headed RunFault) → above.Found no_header 1 lines x → Found lines (read_rest x)
  found_rest (Ok headed) f =
      found_events headed f (read_events (headed.0.parties) 0 (headed.2) (headed.1))
      (below.found (headed.0.parties) (headed.1) 0 (headed.2) (omega arith))
  found_rest (Err (faults.BadLine m)) (inl f) = inl (in_header m (λ h line. IsWrongHeader h line bad) f)
  found_rest (Err (faults.BadLine m)) (inr f) = inr (inl (never_ends m f))
  found_rest (Err (faults.Limit limits.Line m)) f = inl (in_header m (λ h line. IsTooLong line) f)
  found_rest (Err (faults.Limit limits.Events m)) f = absurd f
  found_rest (Err (faults.Limit limits.Parties m)) f = in_header m (λ h line. IsWrongHeader h line (over limits.Parties)) f
  found_rest (Err (faults.Limit limits.Deposits m)) f = in_header m (λ h line. IsWrongHeader h line (over limits.Deposits)) f
  found_rest (Err (faults.Limit limits.Secrets m)) f = in_header m (λ h line. IsWrongHeader h line (over limits.Secrets)) f

  found : Found lines (read_rest (read_header no_header 1 lines))
  found = found_rest (read_header no_header 1 lines) (above.found lines no_header 1)

-- ---- and what is found is read

-- what is read of these lines
abbrev of_lines : List (List ℕ) → Answer
of_lines lines = read_rest (read_header no_header 1 lines)

-- the line that ends the header
rule_says : (h : Header) (line : List ℕ) → IsRule line → header_line h line ≡ rule
rule_says h line r = above.short_says h line r.short ∙ ap (λ (ws : List (List ℕ)). header_words h ws) r.word

-- what is read of lines with a header and a rule is that of the lines below
headed : (before : List (List ℕ)) (line : List ℕ) (rest : List (List ℕ)) (h : Header) → SpellHeader no_header before h → IsRule line
    → of_lines (before ++ line ∷ rest) ≡ with_header h (read_events h.parties 0 (1 + length before + 1) rest)
headed before line rest h s r =
    ap read_rest (above.passed before no_header h 1 (line ∷ rest) s)
    ∙ ap (λ (x : Line Header). read_rest (header_step h (1 + length before) rest x (read_header (kept h x) (1 + length before + 1) rest)))
    (rule_says h line r)

-- a line of the header that says what fails
header_fails : (before : List (List ℕ)) (line : List ℕ) (rest : List (List ℕ)) (h : Header) (x : Line Header) (m : ℕ) (fault : ℕ → RunFault)
    → SpellHeader no_header before h → m ≡ length before + 1 → header_line h line ≡ x
    → ((n : ℕ) (later : Result Headed RunFault) → header_step h n rest x later ≡ Err (fault n))
    → of_lines (before ++ line ∷ rest) ≡ a_fault (fault m)
header_fails before line rest h x m fault s number e step_is =
    let same : 1 + length before ≡ m = omega (arith, number) in
    ap read_rest (above.passed before no_header h 1 (line ∷ rest) s)
    ∙ ap (λ (y : Line Header). read_rest (header_step h (1 + length before) rest y (read_header (kept h y) (1 + length before + 1) rest))) e
    ∙ ap read_rest (step_is (1 + length before) (read_header (kept h x) (1 + length before + 1) rest))
    ∙ ap (λ (n : ℕ). a_fault (fault n)) same

wrong_header : (lines : List (List ℕ)) (m : ℕ) (x : Line Header) (fault : ℕ → RunFault)
    → ((h : Header) (n : ℕ) (rest : List (List ℕ)) (later : Result Headed RunFault) → header_step h n rest x later ≡ Err (fault n))
    → FirstOfHeader lines m (λ h line. IsWrongHeader h line x) → of_lines lines ≡ a_fault (fault m)
wrong_header lines m x fault step_is f =
    ap of_lines f.in_order
    ∙ header_fails f.before f.line f.after f.header x m fault f.spelled f.number
    (above.short_says f.header f.line (f.fault.0) ∙ header_back f.header (words_of f.line) x (f.fault.1)) (λ n later. step_is f.header n f.after later)

long_header : (lines : List (List ℕ)) (m : ℕ) → FirstOfHeader lines m (λ h line. IsTooLong line)
    → of_lines lines ≡ a_fault (faults.Limit limits.Line m)
long_header lines m f =
    ap of_lines f.in_order
    ∙ header_fails f.before f.line f.after f.header (over limits.Line) m (λ n. faults.Limit limits.Line n) f.spelled f.number
    (above.long_says f.header f.line f.fault) (λ n later. refl)

no_end : (lines : List (List ℕ)) (m : ℕ) → NeverEnds lines m → of_lines lines ≡ a_fault (faults.BadLine m)
no_end lines m f =
    let same : 1 + length lines ≡ m = omega (arith, f.number) in
    ap of_lines (sym (append-nil lines)) ∙ ap read_rest (above.passed lines no_header f.header 1 [] f.spelled)
    ∙ ap (λ (n : ℕ). a_fault (faults.BadLine n)) same

-- a line below the header that says what fails
wrong_event : (lines : List (List ℕ)) (m : ℕ) (wrong : List (List ℕ) → ℕ → List ℕ → Type 0) (x : Line Event) (fault : ℕ → RunFault)
    → ((parties : List (List ℕ)) (count : ℕ) (line : List ℕ) → wrong parties count line → event_of_line parties count line ≡ x)
    → ((n : ℕ) (later : below.Answer) → event_step n x later ≡ Err (fault n))
    → FirstOfEvents lines m wrong → of_lines lines ≡ a_fault (fault m)
wrong_event lines m wrong x fault says_x step_is f =
    let h = f.header in
    let none : 0 + length f.events ≡ length f.events = omega arith in
    let n : ℕ = 1 + length f.above + 1 in
    let same : n + length f.before ≡ m = omega (arith, f.number) in
    ap of_lines f.in_order
    ∙ headed f.above f.rule (f.before ++ f.line ∷ f.after) h f.spelled f.ends
    ∙ ap (with_header h)
    (below.passed h.parties f.before f.events 0 n (f.line ∷ f.after) f.events_spelled (omega (arith, f.few))
    ∙ ap (below.with_all h.parties f.events)
    (below.fails h.parties (0 + length f.events) (n + length f.before) f.line f.after x (fault (n + length f.before))
    (ap (λ (c : ℕ). event_of_line h.parties c f.line) none ∙ says_x h.parties (length f.events) f.line f.fault)
    (λ later. step_is (n + length f.before) later))
    ∙ below.all_err h.parties f.events (fault (n + length f.before)))
    ∙ ap (λ (k : ℕ). a_fault (fault k)) same

faulty : (lines : List (List ℕ)) (fault : RunFault) → HasRunFault lines fault → of_lines lines ≡ a_fault fault
faulty lines (faults.BadLine m) (inl f) = wrong_header lines m bad (λ n. faults.BadLine n) (λ h n rest later. refl) f
faulty lines (faults.BadLine m) (inr (inl f)) = no_end lines m f
faulty lines (faults.BadLine m) (inr (inr f)) =
    wrong_event lines m IsNoEvent bad (λ n. faults.BadLine n) below.no_event_says (λ n later. refl) f
faulty lines (faults.Limit limits.Line m) (inl f) = long_header lines m f
faulty lines (faults.Limit limits.Line m) (inr f) =
    wrong_event lines m (λ parties count line. IsTooLong line) (over limits.Line) (λ n. faults.Limit limits.Line n) below.too_long_says
    (λ n later. refl) f
faulty lines (faults.Limit limits.Events m) f =
    wrong_event lines m IsOneTooMany (over limits.Events) (λ n. faults.Limit limits.Events n) below.over_says (λ n later. refl) f
faulty lines (faults.Limit limits.Parties m) f =
    wrong_header lines m (over limits.Parties) (λ n. faults.Limit limits.Parties n) (λ h n rest later. refl) f
faulty lines (faults.Limit limits.Deposits m) f =
    wrong_header lines m (over limits.Deposits) (λ n. faults.Limit limits.Deposits n) (λ h n rest later. refl) f
faulty lines (faults.Limit limits.Secrets m) f =
    wrong_header lines m (over limits.Secrets) (λ n. faults.Limit limits.Secrets n) (λ h n rest later. refl) f

spelled : (lines : List (List ℕ)) (run : Run) → SpellRun lines run → of_lines lines ≡ a_run run
spelled lines run s =
    let h = run.header in
    let n : ℕ = 1 + length s.above + 1 in
    ap of_lines s.in_order
    ∙ headed s.above s.rule s.below h s.header s.ends
    ∙ ap (with_header h)
    (ap (λ (xs : List (List ℕ)). read_events h.parties 0 n xs) (sym (append-nil s.below))
    ∙ below.passed h.parties s.below run.events 0 n [] s.events (omega (arith, s.few))
    ∙ below.all_ok h.parties run.events)

-- ---- files

abbrev judged_ok : Run → Judged Run
judged_ok run = Ok run

abbrev judged_err : List ℕ → Judged Run
judged_err why = Err why

-- what is found of a file
abbrev FoundFile : List ℕ → Judged Run → Type 0
FoundFile text (Ok run) = IsRunFile text run
FoundFile text (Err why) = (r : RunRefusal) × IsRefusedRunText text r × (why ≡ run_refusal_text r)

found_text : (text : List ℕ) → FoundFile text (run_of text)
found_text text = by_size (nat_lt most_run_bytes (length text)) refl
  where
    by_answer : (x : Answer) → length text ≤ most_run_bytes → Found (lines_of text) x → FoundFile text (judged_run x)
    by_answer (Ok run) few f = record { few = few; spelled = f }
    by_answer (Err fault) few f = (first fault, (few, f), refl)

    by_size : (b : Bool) → nat_lt most_run_bytes (length text) ≡ b
        → FoundFile text (if b then Err too_long_run else judged_run (read_run text))
    by_size true e = (too_long, ltb-true most_run_bytes (length text) e, refl)
    by_size false e = by_answer (read_run text) (ltb-false most_run_bytes (length text) e) (found (lines_of text))

small_is : (text : List ℕ) → length text ≤ most_run_bytes → run_of text ≡ judged_run (read_run text)
small_is text few =
    ap (λ (b : Bool). if b then Err too_long_run else judged_run (read_run text))
    (false_from_ne_true (nat_lt most_run_bytes (length text)) (λ k. omega (arith, ltb-true _ _ k, few)))

refused_is : (text : List ℕ) (r : RunRefusal) → IsRefusedRunText text r → run_of text ≡ judged_err (run_refusal_text r)
refused_is text too_long long =
    ap (λ (b : Bool). if b then Err too_long_run else judged_run (read_run text))
    (true_from_ne_false (nat_lt most_run_bytes (length text)) (λ k. omega (arith, ltb-false _ _ k, long)))
refused_is text (first fault) f = small_is text f.0 ∙ ap judged_run (faulty (lines_of text) fault f.1)

taken_is : (text : List ℕ) (run : Run) → IsRunFile text run → run_of text ≡ judged_ok run
taken_is text run f = small_is text f.few ∙ ap judged_run (spelled (lines_of text) run f.spelled)

read_file : (text : Text) (run : Run) → (run_in text ≡ Ok run) ↔ HoldsRun text run
read_file None run = (λ e. absurd (cc), λ f. absurd f)
read_file (Some text) run = (λ e. subst (FoundFile text) e (found_text text), λ f. taken_is text run f)

refused_none : (r : RunRefusal) → IsRefusedRun None r → too_long_run ≡ run_refusal_text r
refused_none too_long f = refl
refused_none (first fault) f = absurd f

refused_file : (text : Text) (why : List ℕ)
    → (run_in text ≡ Err why) ↔ ((r : RunRefusal) × IsRefusedRun text r × (why ≡ run_refusal_text r))
refused_file None why = (
  λ e. (too_long, tt, let same : too_long_run ≡ why = cc in sym same),
  λ f. ap judged_err (refused_none (f.0) (f.1) ∙ sym (f.2)),
)
refused_file (Some text) why = (
  λ e. subst (FoundFile text) e (found_text text),
  λ f. refused_is text (f.0) (f.1) ∙ ap judged_err (sym (f.2)),
)

pub run_files_read : RunFilesAreRead
run_files_read = record {
  lines = λ text run. (λ e. subst (Found (lines_of text)) e (found (lines_of text)), λ s. spelled (lines_of text) run s);
  fault = λ text fault. (λ e. subst (Found (lines_of text)) e (found (lines_of text)), λ f. faulty (lines_of text) fault f);
  read = read_file;
  refused = refused_file;
}
