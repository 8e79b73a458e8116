-- What is read of the lines below a header: each is empty or spells an event, up to the first that is wrong.
use Rattle.std.proofs.Common.{◌≡◌, ℕ, ◌+◌, ◌≤◌, ◌<◌, Bool, true, false, List, [], ◌∷◌, ◌++◌, length, Option, Some}
use Rattle.std.proofs.Common.{None, Ok, Err, refl, sym, ap, subst, ◌∙◌, inl, inr, arith}
use Rattle.std.specs.Prelude.{if◌then◌else◌, nat_lt, Result}
use Rattle.std.proofs.lemmas.Bool.{ltb-false, ltb-true, true_from_ne_false, false_from_ne_true}
use Rattle.spec_run.specs.declared.event.Event.{Event}
use Rattle.spec_text.specs.declared.run_fault.RunFault.{RunFault}
use Rattle.spec_text.specs.declared.run_fault.RunFault.TheVariants as faults
use Rattle.spec_text.specs.declared.run_fault.RunLimit.TheVariants as limits
use Rattle.spec_text.specs.Lines.{words_of}
use Rattle.spec_text.specs.Limits.{most_line_bytes, most_events}
use Rattle.spec_text.specs.EventLines.{event_of}
use Rattle.spec_text.specs.RunFile.{Line, bad, over, empty, says, spelled_within, event_within, event_words, event_of_line}
use Rattle.spec_text.specs.RunFile.{with_event, counted, event_step, read_events}
use Rattle.theory_commands.specs.RunFiles.{IsShort, SpellEvents, IsNoEvent, IsOneTooMany, IsTooLong}
use Rattle.theory_commands.proofs.LineEvents.{event_spelled, event_back, none_spelled, none_back}

abbrev pub Answer : Type 0
Answer = Result (List Event) RunFault

module _ (parties : List (List ℕ)) where
  -- ---- what is found

  pub record Faulty (count n : ℕ) (lines : List (List ℕ)) (m : ℕ) (wrong : List (List ℕ) → ℕ → List ℕ → Type 0) : Type 0 where
    pub before : List (List ℕ)
    pub line : List ℕ
    pub after : List (List ℕ)
    pub in_order : lines ≡ before ++ line ∷ after
    pub number : m ≡ n + length before
    pub events : List Event
    pub spelled : SpellEvents parties before events
    pub few : count + length events ≤ most_events
    pub fault : wrong parties (count + length events) line

  abbrev pub long_line : List (List ℕ) → ℕ → List ℕ → Type 0
  long_line declared count line = IsTooLong line

  abbrev pub Found : ℕ → ℕ → List (List ℕ) → Answer → Type 0
  Found count n lines (Ok es) = SpellEvents parties lines es × (count + length es ≤ most_events)
  Found count n lines (Err (faults.BadLine m)) = Faulty count n lines m IsNoEvent
  Found count n lines (Err (faults.Limit limits.Line m)) = Faulty count n lines m long_line
  Found count n lines (Err (faults.Limit limits.Events m)) = Faulty count n lines m IsOneTooMany
  Found count n lines (Err (faults.Limit limits.Parties m)) = ⊥
  Found count n lines (Err (faults.Limit limits.Deposits m)) = ⊥
  Found count n lines (Err (faults.Limit limits.Secrets m)) = ⊥

  -- behind an empty line
  module _ (count n : ℕ) (line : List ℕ) (lines : List (List ℕ)) (short : IsShort line) (none : words_of line ≡ []) where
    faulty_behind : (m : ℕ) (wrong : List (List ℕ) → ℕ → List ℕ → Type 0) → Faulty count (n + 1) lines m wrong
        → Faulty count n (line ∷ lines) m wrong
    faulty_behind m wrong f = record {
      before = line ∷ f.before;
      line = f.line;
      after = f.after;
      in_order = ap (λ xs. line ∷ xs) f.in_order;
      number = omega (arith, f.number);
      events = f.events;
      spelled = (short, inl (none, f.spelled));
      few = f.few;
      fault = f.fault;
    }

    found_behind : (x : Answer) → Found count (n + 1) lines x → Found count n (line ∷ lines) x
    found_behind (Ok es) f = ((short, inl (none, f.0)), f.1)
    found_behind (Err (faults.BadLine m)) f = faulty_behind m IsNoEvent f
    found_behind (Err (faults.Limit limits.Line m)) f = faulty_behind m long_line f
    found_behind (Err (faults.Limit limits.Events m)) f = faulty_behind m IsOneTooMany f
    found_behind (Err (faults.Limit limits.Parties m)) f = f
    found_behind (Err (faults.Limit limits.Deposits m)) f = f
    found_behind (Err (faults.Limit limits.Secrets m)) f = f

  -- behind an event
  module _ (count n : ℕ) (line : List ℕ) (lines : List (List ℕ)) (short : IsShort line) (e : Event)
      (says_e : event_of parties (words_of line) ≡ Some e) where
    faulty_after : (m : ℕ) (wrong : List (List ℕ) → ℕ → List ℕ → Type 0) → Faulty (count + 1) (n + 1) lines m wrong
        → Faulty count n (line ∷ lines) m wrong
    faulty_after m wrong f =
        let same : count + 1 + length f.events ≡ count + length (e ∷ f.events) = omega arith in
        record {
          before = line ∷ f.before;
          line = f.line;
          after = f.after;
          in_order = ap (λ xs. line ∷ xs) f.in_order;
          number = omega (arith, f.number);
          events = e ∷ f.events;
          spelled = (short, inr (e, f.events, refl, event_spelled parties (words_of line) e says_e, f.spelled));
          few = omega (arith, f.few, same);
          fault = subst (λ (k : ℕ). wrong parties k f.line) same f.fault;
        }

    found_after : (x : Answer) → Found (count + 1) (n + 1) lines x → Found count n (line ∷ lines) (with_event e x)
    found_after (Ok es) f = ((short, inr (e, es, refl, event_spelled parties (words_of line) e says_e, f.0)), omega (arith, f.1))
    found_after (Err (faults.BadLine m)) f = faulty_after m IsNoEvent f
    found_after (Err (faults.Limit limits.Line m)) f = faulty_after m long_line f
    found_after (Err (faults.Limit limits.Events m)) f = faulty_after m IsOneTooMany f
    found_after (Err (faults.Limit limits.Parties m)) f = f
    found_after (Err (faults.Limit limits.Deposits m)) f = f
    found_after (Err (faults.Limit limits.Secrets m)) f = f

  -- the first line is wrong
  here : (count n : ℕ) (line : List ℕ) (lines : List (List ℕ)) (wrong : List (List ℕ) → ℕ → List ℕ → Type 0) → count ≤ most_events
      → wrong parties count line → Faulty count n (line ∷ lines) n wrong
  here count n line lines wrong few w =
      let none : List Event = [] in
      let same : count ≡ count + length none = omega arith in
      record {
        before = [];
        line = line;
        after = lines;
        in_order = refl;
        number = omega arith;
        events = none;
        spelled = refl;
        few = omega (arith, few, same);
        fault = subst (λ (c : ℕ). wrong parties c line) same w;
      }

  pub found : (lines : List (List ℕ)) (count n : ℕ) → count ≤ most_events → Found count n lines (read_events parties count n lines)
  found [] count n few = (refl, omega (arith, few))
  found (line ∷ lines) count n few = by_long (nat_lt most_line_bytes (length line)) refl (found lines)
    where
      Later : Type 0
      Later = (c m : ℕ) → c ≤ most_events → Found c m lines (read_events parties c m lines)

      by_room : (b : Bool) (e : Event) → IsShort line → event_of parties (words_of line) ≡ Some e → nat_lt count most_events ≡ b → Later
          → Found count n (line ∷ lines)
          (event_step n (spelled_within true b limits.Events e)
          (read_events parties (counted count (spelled_within true b limits.Events e)) (n + 1) lines))
      by_room true e short said k later =
          found_after count n line lines short e said (read_events parties (count + 1) (n + 1) lines)
          (later (count + 1) (n + 1) (omega (arith, ltb-true count most_events k)))
      by_room false e short said k later =
          here count n line lines IsOneTooMany few
          (record {
            short = short;
            event = e;
            spelled = event_spelled parties (words_of line) e said;
            full = omega (arith, few, ltb-false count most_events k);
          })

      by_event : (o : Option Event) → IsShort line → (words_of line ≡ [] → ⊥) → event_of parties (words_of line) ≡ o → Later
          → Found count n (line ∷ lines)
          (event_step n (event_within count o) (read_events parties (counted count (event_within count o)) (n + 1) lines))
      by_event None short some e later =
          here count n line lines IsNoEvent few (record { short = short; some = some; none = none_spelled parties (words_of line) e })
      by_event (Some event) short some e later = by_room (nat_lt count most_events) event short e refl later

      by_words : (ws : List (List ℕ)) → IsShort line → words_of line ≡ ws → Later
          → Found count n (line ∷ lines)
          (event_step n (event_words parties count ws) (read_events parties (counted count (event_words parties count ws)) (n + 1) lines))
      by_words [] short e later =
          found_behind count n line lines short e (read_events parties count (n + 1) lines) (later count (n + 1) few)
      by_words (w ∷ ws) short e later =
          by_event (event_of parties (w ∷ ws)) short (λ k. some (sym k ∙ e)) (ap (λ (x : List (List ℕ)). event_of parties x) e) later
        where
          some : [] ≡ w ∷ ws → ⊥
          some k = cc

      by_long : (b : Bool) → nat_lt most_line_bytes (length line) ≡ b → Later
          → Found count n (line ∷ lines)
          (event_step n (if b then over limits.Line else event_words parties count (words_of line))
          (read_events parties (counted count (if b then over limits.Line else event_words parties count (words_of line))) (n + 1) lines))
      by_long true e later = here count n line lines long_line few (ltb-true most_line_bytes (length line) e)
      by_long false e later = by_words (words_of line) (ltb-false most_line_bytes (length line) e) refl later

  -- ---- and what is found is read

  short_says : (count : ℕ) (line : List ℕ) → IsShort line → event_of_line parties count line ≡ event_words parties count (words_of line)
  short_says count line short = by_test (nat_lt most_line_bytes (length line)) refl
    where
      by_test : (b : Bool) → nat_lt most_line_bytes (length line) ≡ b
          → (if b then over limits.Line else event_words parties count (words_of line)) ≡ event_words parties count (words_of line)
      by_test true e = absurd (let lt = ltb-true most_line_bytes (length line) e in omega (arith, lt, short))
      by_test false e = refl

  long_says : (count : ℕ) (line : List ℕ) → IsTooLong line → event_of_line parties count line ≡ over limits.Line
  long_says count line long =
      ap (λ (b : Bool). if b then over limits.Line else event_words parties count (words_of line))
      (true_from_ne_false (nat_lt most_line_bytes (length line)) (λ k. omega (arith, ltb-false _ _ k, long)))

  some_words : (count : ℕ) (ws : List (List ℕ)) (o : Option Event) → (ws ≡ [] → ⊥) → event_of parties ws ≡ o
      → event_words parties count ws ≡ event_within count o
  some_words count [] o some e = absurd (some refl)
  some_words count (w ∷ ws) o some e = ap (λ (x : Option Event). event_within count x) e

  event_words_not_empty : (ws : List (List ℕ)) (e : Event) → event_of parties ws ≡ Some e → ws ≡ [] → ⊥
  event_words_not_empty [] e h k = cc
  event_words_not_empty (w ∷ ws) e h k = cc

  says_event : (count : ℕ) (line : List ℕ) (e : Event) → IsShort line → event_of parties (words_of line) ≡ Some e → count < most_events
      → event_of_line parties count line ≡ says e
  says_event count line e short said room =
      short_says count line short ∙ some_words count (words_of line) (Some e) (event_words_not_empty (words_of line) e said) said
      ∙ ap (λ (b : Bool). spelled_within true b limits.Events e)
      (true_from_ne_false (nat_lt count most_events) (λ k. omega (arith, ltb-false _ _ k, room)))

  over_event : (count : ℕ) (line : List ℕ) (e : Event) → IsShort line → event_of parties (words_of line) ≡ Some e → count ≡ most_events
      → event_of_line parties count line ≡ over limits.Events
  over_event count line e short said full =
      short_says count line short ∙ some_words count (words_of line) (Some e) (event_words_not_empty (words_of line) e said) said
      ∙ ap (λ (b : Bool). spelled_within true b limits.Events e)
      (false_from_ne_true (nat_lt count most_events) (λ k. omega (arith, ltb-true _ _ k, full)))

  empty_line : (count : ℕ) (line : List ℕ) → IsShort line → words_of line ≡ [] → event_of_line parties count line ≡ empty
  empty_line count line short e = short_says count line short ∙ ap (λ (ws : List (List ℕ)). event_words parties count ws) e

  -- what is read behind a line that says this
  abbrev step : ℕ → ℕ → List (List ℕ) → Line Event → Answer
  step count n lines x = event_step n x (read_events parties (counted count x) (n + 1) lines)

  -- these events, and then what is answered
  abbrev pub with_all : List Event → Answer → Answer
  with_all [] x = x
  with_all (e ∷ es) x = with_event e (with_all es x)

  -- lines that are spelled are passed over
  pub passed : (before : List (List ℕ)) (es : List Event) (count n : ℕ) (rest : List (List ℕ)) → SpellEvents parties before es
      → count + length es ≤ most_events
      → read_events parties count n (before ++ rest) ≡ with_all es (read_events parties (count + length es) (n + length before) rest)
  passed [] es count n rest e few =
      let here_n : n ≡ n + 0 = omega arith in
      let here_count : count ≡ count + 0 = omega arith in
      ap (λ (m : ℕ). read_events parties count m rest) here_n
      ∙ ap (λ (c : ℕ). read_events parties c (n + 0) rest) here_count
      ∙ ap (λ (xs : List Event). with_all xs (read_events parties (count + length xs) (n + 0) rest)) (sym e)
  passed (line ∷ lines) es count n rest (short, inl e) few =
      let number : n + 1 + length lines ≡ n + length (line ∷ lines) = omega arith in
      ap (step count n (lines ++ rest)) (empty_line count line short (e.0))
      ∙ passed lines es count (n + 1) rest (e.1) few
      ∙ ap (λ (m : ℕ). with_all es (read_events parties (count + length es) m rest)) number
  passed (line ∷ lines) es count n rest (short, inr e) few =
      let number : n + 1 + length lines ≡ n + length (line ∷ lines) = omega arith in
      let size : length es ≡ length (e.0 ∷ e.1) = ap length (e.2) in
      let moved : count + 1 + length (e.1) ≡ count + length (e.0 ∷ e.1) = omega arith in
      ap (step count n (lines ++ rest)) (says_event count line (e.0) short (event_back parties (words_of line) (e.0) (e.3)) (omega (arith, few, size)))
      ∙ ap (with_event (e.0)) (passed lines (e.1) (count + 1) (n + 1) rest (e.4) (omega (arith, few, size)))
      ∙ ap (λ (c : ℕ). with_all (e.0 ∷ e.1) (read_events parties c (n + 1 + length lines) rest)) moved
      ∙ ap (λ (m : ℕ). with_all (e.0 ∷ e.1) (read_events parties (count + length (e.0 ∷ e.1)) m rest)) number
      ∙ ap (λ (xs : List Event). with_all xs (read_events parties (count + length xs) (n + length (line ∷ lines)) rest)) (sym (e.2))

  -- events end with none
  pub all_ok : (es : List Event) → with_all es (Ok []) ≡ Ok es
  all_ok [] = refl
  all_ok (e ∷ es) = ap (with_event e) (all_ok es)

  -- and with a fault where it is one
  pub all_err : (es : List Event) (fault : RunFault) → with_all es (Err fault) ≡ Err fault
  all_err [] fault = refl
  all_err (e ∷ es) fault = ap (with_event e) (all_err es fault)

  -- a line that says what fails
  pub fails : (count n : ℕ) (line : List ℕ) (lines : List (List ℕ)) (x : Line Event) (fault : RunFault)
      → event_of_line parties count line ≡ x → ((later : Answer) → event_step n x later ≡ Err fault)
      → read_events parties count n (line ∷ lines) ≡ Err fault
  fails count n line lines x fault e f = ap (step count n lines) e ∙ f (read_events parties (counted count x) (n + 1) lines)

  pub no_event_says : (count : ℕ) (line : List ℕ) → IsNoEvent parties count line → event_of_line parties count line ≡ bad
  no_event_says count line w =
      short_says count line w.short ∙ some_words count (words_of line) None w.some (none_back parties (words_of line) w.none)

  pub over_says : (count : ℕ) (line : List ℕ) → IsOneTooMany parties count line → event_of_line parties count line ≡ over limits.Events
  over_says count line w = over_event count line w.event w.short (event_back parties (words_of line) w.event w.spelled) w.full

  pub too_long_says : (count : ℕ) (line : List ℕ) → IsTooLong line → event_of_line parties count line ≡ over limits.Line
  too_long_says count line w = long_says count line w
