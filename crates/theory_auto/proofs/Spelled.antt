-- The text of a longer run is read as it.
use Rattle.std.proofs.Common.{◌≡◌, ℕ, suc, ◌+◌, ◌*◌, ◌<◌, ◌≤◌, Bool, true, false, List, [], ◌∷◌, ◌++◌, length, map}
use Rattle.std.proofs.Common.{Result, Ok, Err, refl, sym, ap, subst, ◌∙◌, arith, inl, inr}
use Rattle.std.specs.Prelude.{if◌then◌else◌, nat_lt, flat_map, codes}
use Rattle.std.specs.List.{AllByRecursion, list_all}
use Rattle.std.proofs.lemmas.Bool.{le-ltb}
use Rattle.std.proofs.lemmas.Bool.Decides.{nat_tests}
use Rattle.std.proofs.lemmas.List.{length-append}
use Rattle.std.proofs.lemmas.List.Sorted.{Contains-permutation}
use Rattle.spec_terms.specs.Readable.{is_name}
use Rattle.spec_run.specs.declared.event.Event.{Event}
use Rattle.spec_run.specs.declared.event.Run.{Run}
use Rattle.spec_run.specs.declared.header.Header.{Header}
use Rattle.spec_run.specs.Setup.{Setup}
use Rattle.spec_run.specs.Translation.{last_world}
use Rattle.spec_text.specs.declared.run_fault.RunFault.{RunFault}
use Rattle.spec_text.specs.Limits.{most_run_bytes, most_events}
use Rattle.spec_text.specs.Lines.{lines_of, words_of}
use Rattle.spec_text.specs.RunText.{newline, event_text, header_text, run_text}
use Rattle.spec_text.specs.RunFile.{Line, bad, over, empty, rule, says, no_header, Headed, read_header, event_of_line, with_event, counted}
use Rattle.spec_text.specs.RunFile.{event_step, read_events, with_header, read_rest, read_run}
use Rattle.spec_text.specs.Refusals.{judged_run, run_of}
use Rattle.spec_tool.specs.declared.rule.Rule.{Rule}
use Rattle.spec_tool.specs.declared.rule.StrategyFault.{StrategyFault}
use Rattle.spec_tool.specs.Sizes.{rule_line_bytes}
use Rattle.spec_tool.specs.Strategy.{read_strategy}
use Rattle.spec_tool.specs.AutoText.{size_limit, events_limit, has_room, fits_within, judged_rules, longer_run}
use Rattle.spec_tool.specs.Turns.{Progress, extended}
use Rattle.theory_calculus.specs.Members.{Is_in}
use Rattle.theory_calculus.proofs.Members.{in_left, in_from_contains, contains_from_in}
use Rattle.theory_text.proofs.Lines.EventLines.{printed_event}
use Rattle.theory_text.proofs.Lines.Headers.{printed_header}
use Rattle.theory_text.proofs.Lines.ReadHeaders.{IsRead, line_keeps, no_header_read}
use Rattle.theory_text.proofs.Lines.ValidHeaders.{header_keeps}
use Rattle.theory_text.proofs.Lines.ValidRuns.{an_event, a_run, run_eq, fault_run}
use Rattle.theory_auto.specs.OwnRules.{IsHonest}
use Rattle.theory_auto.specs.Spelled.{GoesWith, LongerRunsAreSpelled}
use Rattle.theory_auto.proofs.Added.{IsRule, AreAdded, taken_written}
use Rattle.theory_auto.proofs.FewOutputs.{last_few}
use Rattle.theory_auto.proofs.Continued.{strategies_go}
use Rattle.theory_auto.proofs.EventEnds.{among_named, event_ends}
use Rattle.theory_auto.proofs.Honest.{HasNames, strategies_honest, strategies_named}
use Rattle.theory_auto.proofs.OwnRules.{declared_among, all_in}
use Rattle.theory_auto.proofs.Reread.{IsWritten, AreWritten, alone, run_reread}
use Rattle.theory_auto.proofs.Shorter.{lines_size, header_within, text_size, line_of_words, event_shorter}

-- ---- the run that was read

abbrev events_read : List Event → Result (List Event) RunFault
events_read es = Ok es

events_are : (ds es : List Event) → events_read ds ≡ events_read es → ds ≡ es
events_are ds es h = cc

-- the events of these lines are written in canonical lines, which are no longer
record IsRewritten (parties : List (List ℕ)) (count : ℕ) (lines : List (List ℕ)) (es : List Event) : Type 0 where
  written : AreWritten parties count es
  size : lines_size (map event_text es) ≤ lines_size lines

module _ (parties : List (List ℕ)) (names : list_all is_name parties ≡ true) where
  one_rewritten : (count : ℕ) (line : List ℕ) (lines : List (List ℕ)) (event : Event) (later : Result (List Event) RunFault)
      (es : List Event)
      → event_of_line parties count line ≡ an_event event
      → ((ds : List Event) → later ≡ events_read ds → IsRewritten parties (count + 1) lines ds) → with_event event later ≡ events_read es
      → IsRewritten parties count (line ∷ lines) es
  one_rewritten count line lines event (Err fault) es is f e = cc
  one_rewritten count line lines event (Ok ds) es is f e =
      let later = f ds refl in
      let one : IsWritten parties count event = record {
        said = printed_event parties count line event is;
        ends = event_ends parties names (words_of line) event (line_of_words parties count line event is).read;
      } in
      let all : IsRewritten parties count (line ∷ lines) (event ∷ ds) =
      record { written = (one, later.written); size = omega (arith, event_shorter parties count line event is, later.size) } in
      subst (IsRewritten parties count (line ∷ lines)) (events_are (event ∷ ds) es e) all

  step_rewritten : (count n : ℕ) (line : List ℕ) (lines : List (List ℕ)) (said : Line Event) (later : Result (List Event) RunFault)
      (es : List Event) → event_of_line parties count line ≡ said
      → ((ds : List Event) → later ≡ events_read ds → IsRewritten parties (counted count said) lines ds)
      → event_step n said later ≡ events_read es
      → IsRewritten parties count (line ∷ lines) es
  step_rewritten count n line lines bad later es is f e = cc
  step_rewritten count n line lines (over limit) later es is f e = cc
  step_rewritten count n line lines empty later es is f e =
      let r = f es e in
      record { written = r.written; size = omega (arith, r.size) }
  step_rewritten count n line lines rule later es is f e = cc
  step_rewritten count n line lines (says event) later es is f e = one_rewritten count line lines event later es is f e

  lines_rewritten : (count n : ℕ) (lines : List (List ℕ)) (es : List Event) → read_events parties count n lines ≡ events_read es
      → IsRewritten parties count lines es
  lines_rewritten count n [] es e = subst (IsRewritten parties count []) (events_are [] es e) (record { written = tt; size = omega arith })
  lines_rewritten count n (line ∷ lines) es e =
      let said = event_of_line parties count line in
      step_rewritten count n line lines said (read_events parties (counted count said) (n + 1) lines) es refl
      (lines_rewritten (counted count said) (n + 1) lines) e

-- what is known of a run that was read
record IsKnown (text : List ℕ) (run : Run) : Type 0 where
  again : read_run (header_text run.header) ≡ a_run (alone run.header)
  names : list_all is_name run.header.honest ≡ true
  written : AreWritten run.header.parties 0 run.events
  size : length (header_text run.header) + lines_size (map event_text run.events) ≤ length text + 1

-- the header and the events of the run
record IsMade (header : Header) (read : Result (List Event) RunFault) (run : Run) : Type 0 where
  header' : header ≡ run.header
  events' : read ≡ events_read run.events

made_is : (header : Header) (read : Result (List Event) RunFault) (run : Run) → with_header header read ≡ a_run run → IsMade header read run
made_is header (Err fault) run e = absurd (fault_run fault run e)
made_is header (Ok es) run e =
    let same = run_eq (record { header = header; events = es }) run e in
    record { header' = ap (λ (r : Run). r.header) same; events' = ap (λ (r : Run). events_read r.events) same }

rest_known : (text : List ℕ) (run : Run) (read : Result Headed RunFault) → read_header no_header 1 (lines_of text) ≡ read
    → read_run text ≡ a_run run → read_rest read ≡ a_run run → IsKnown text run
rest_known text run (Err fault) is all e = absurd (fault_run fault run e)
rest_known text run (Ok x) is all e =
    let made = made_is (x.0) (read_events (x.0.parties) 0 (x.2) (x.1)) run e in
    let of = header_keeps IsRead (λ g k line. line_keeps g k line) no_header 1 (lines_of text) x no_header_read is in
    let head = subst IsRead made.header' of in
    let events = ap (λ (h : Header). read_events h.parties 0 (x.2) (x.1)) (sym made.header') ∙ made.events' in
    let lines = lines_rewritten run.header.parties head.party_names 0 (x.2) (x.1) run.events events in
    let prefix = header_within no_header 1 (lines_of text) x is in
    let same = ap (λ (h : Header). length (header_text h)) made.header' in
    record {
      again = printed_header text run all;
      names = head.honest_names;
      written = lines.written;
      size = omega (arith, prefix, same, lines.size, text_size text);
    }

judged_is : (read : Result Run RunFault) (run : Run) → judged_run read ≡ Ok run → read ≡ a_run run
judged_is (Ok q) run h = cc
judged_is (Err fault) run h = cc

read_is : (text : List ℕ) (run : Run) → run_of text ≡ Ok run → read_run text ≡ a_run run
read_is text run h = by_size (nat_lt most_run_bytes (length text)) h
  where
    by_size : (t : Bool) → (if t then Err (codes "limit Size line 0") else judged_run (read_run text)) ≡ Ok run → read_run text ≡ a_run run
    by_size true e = cc
    by_size false e = judged_is (read_run text) run e

known : (text : List ℕ) (run : Run) → run_of text ≡ Ok run → IsKnown text run
known text run h =
    let all = read_is text run h in
    rest_known text run (read_header no_header 1 (lines_of text)) refl all all

-- ---- the strategy that was read

record IsStrategy (bytes : ℕ) (h : Header) (es : List Event) (text : List ℕ) (rules : List Rule) : Type 0 where
  read : read_strategy h text ≡ Ok rules
  room : length es + length rules ≤ most_events
  fits : bytes + rule_line_bytes * length rules < most_run_bytes

strategy_is : (bytes : ℕ) (h : Header) (es : List Event) (text : List ℕ) (rules : List Rule)
    → judged_rules bytes es (read_strategy h text) ≡ Ok rules → IsStrategy bytes h es text rules
strategy_is bytes h es text rules e = by_read (read_strategy h text) refl e
  where
    by_read : (read : Result (List Rule) StrategyFault) → read_strategy h text ≡ read → judged_rules bytes es read ≡ Ok rules
        → IsStrategy bytes h es text rules
    by_read (Err fault) is f = cc
    by_read (Ok rs) is f = by_limits (has_room es rs) (fits_within bytes rs) refl refl f
      where
        by_limits : (room fits : Bool) → has_room es rs ≡ room → fits_within bytes rs ≡ fits
            → (if room then (if fits then Ok rs else Err size_limit) else Err events_limit) ≡ Ok rules → IsStrategy bytes h es text rules
        by_limits false fits p q g = cc
        by_limits true false p q g = cc
        by_limits true true p q g =
            let same : rs ≡ rules = cc in
            let room : length es + length rs ≤ most_events = grind (arith, nat_tests, p) in
            let fits : bytes + rule_line_bytes * length rs < most_run_bytes = grind (arith, nat_tests, q) in
            subst (IsStrategy bytes h es text) same (record { read = is; room = room; fits = fits })

-- ---- both together

written_append : (parties : List (List ℕ)) (count : ℕ) (es ds : List Event) → AreWritten parties count es
    → AreWritten parties (count + length es) ds → AreWritten parties count (es ++ ds)
written_append parties count [] ds h k = let same : count + 0 ≡ count = omega arith in subst (λ n. AreWritten parties n ds) same k
written_append parties count (e ∷ es) ds h k =
    let same : count + suc (length es) ≡ (count + 1) + length es = omega arith in
    (h.0, written_append parties (count + 1) es ds h.1 (subst (λ n. AreWritten parties n ds) same k))

short_size : (es : List Event) → AllByRecursion (λ e. length (event_text e) ≤ 100) es → lines_size (map event_text es) ≤ 101 * length es
short_size [] h = omega arith
short_size (e ∷ es) h = omega (arith, h.0, short_size es h.1)

both_size : (es ds : List Event) → lines_size (map event_text (es ++ ds)) ≡ lines_size (map event_text es) + lines_size (map event_text ds)
both_size [] ds = omega arith
both_size (e ∷ es) ds = omega (arith, both_size es ds)

events_size : (es : List Event) → length (flat_map (λ e. event_text e ++ newline) es) ≡ lines_size (map event_text es)
events_size [] = refl
events_size (e ∷ es) =
    omega (
      arith,
      length-append (event_text e ++ newline) (flat_map (λ e. event_text e ++ newline) es),
      length-append (event_text e) newline,
      events_size es,
    )

run_size : (h : Header) (es : List Event) → length (run_text (record { header = h; events = es }))
    ≡ length (header_text h) + lines_size (map event_text es)
run_size h es = omega (arith, length-append (header_text h) (flat_map (λ e. event_text e ++ newline) es), events_size es)

all_from : {X : Type 0} (P : X → Type 0) (xs : List X) → ((x : X) → Is_in x xs → P x) → AllByRecursion P xs
all_from P [] f = tt
all_from P (x ∷ xs) f = (f x (inl refl), all_from P xs (λ y i. f y (inr i)))

taken_by : (text : List ℕ) (run : Run) → length text ≤ most_run_bytes → read_run text ≡ a_run run → run_of text ≡ Ok run
taken_by text run short read = rw (le-ltb most_run_bytes (length text) short, read) refl

-- the events that are added
added : (s : Setup) (text strategy : List ℕ) (run : Run) (rules : List Rule) (p : Progress) → (g : GoesWith s text strategy run rules)
    → extended s (last_world s run.events) rules ≡ Ok p → AreAdded s.header.parties (length run.events) p.events
added s text strategy run rules p g e =
    let know = known text run g.spells in
    let of = strategy_is (length text) run.header run.events strategy rules g.strategy_spells in
    let read = subst (λ (h : Header). read_strategy h strategy ≡ Ok rules) (sym g.header) of.read in
    let names = subst (λ (h : Header). list_all is_name h.honest ≡ true) (sym g.header) know.names in
    let honest = strategies_honest s.header strategy rules read in
    let named = strategies_named s.header strategy rules read in
    let is_rule : (r : Rule) → Is_in r rules → IsRule s r =
    λ r i. record {
      named = among_named r.party s.header.honest names (all_in (IsHonest s.header) rules r honest i);
      declared = declared_among r.party s.header.honest s.header.parties g.is_run.setup.header.honest_declared
          (all_in (IsHonest s.header) rules r honest i);
      names = all_in HasNames rules r named i;
    } in
    let on = strategies_go.goes_on s run.events rules p g.is_run g.whole e in
    let stands : (r : Rule) → Is_in r on.rules_taken → Is_in r rules =
    λ r i. in_from_contains rules r (Contains-permutation (on.rules_taken ++ p.left) rules r on.each_once
    (contains_from_in (on.rules_taken ++ p.left) r (in_left r on.rules_taken p.left i))) in
    let fine = all_from (IsRule s) on.rules_taken (λ r i. is_rule r (stands r i)) in
    taken_written s g.is_run.setup on.rules_taken p.events (last_world s run.events) _ (length run.events) fine on.taken
    (omega (arith, last_few s run.events g.is_run, on.count, of.room)) (omega (arith, on.count, of.room))

pub longer_spelled : LongerRunsAreSpelled
longer_spelled s text strategy run rules p g e =
    let know = known text run g.spells in
    let of = strategy_is (length text) run.header run.events strategy rules g.strategy_spells in
    let more = added s text strategy run rules p g e in
    let on = strategies_go.goes_on s run.events rules p g.is_run g.whole e in
    let later = subst (λ (h : Header). AreWritten h.parties (length run.events) p.events) g.header more.written in
    let count : length run.events ≡ 0 + length run.events = omega arith in
    let behind = subst (λ n. AreWritten run.header.parties n p.events) count later in
    let written = written_append run.header.parties 0 run.events p.events know.written behind in
    let longer = longer_run run.header run.events p in
    let size : length (run_text longer) ≤ most_run_bytes =
    omega (
      arith,
      run_size run.header (run.events ++ p.events),
      both_size run.events p.events,
      short_size p.events more.short,
      know.size,
      on.count,
      of.fits,
    ) in
    taken_by (run_text longer) longer size (run_reread run.header (run.events ++ p.events) know.again written)
