-- What is known of a run that a run file spells: its names, and each event by its canonical line.
use Rattle.std.proofs.Common.{◌≡◌, ℕ, ◌+◌, ◌≤◌, Bool, true, false, List, [], ◌∷◌, ◌++◌, length, Option, Some, None, Ok}
use Rattle.std.proofs.Common.{Err, refl, subst, arith}
use Rattle.std.specs.Prelude.{if◌then◌else◌, nat_lt, not, Result, codes}
use Rattle.std.specs.List.{list_all, AllByRecursion}
use Rattle.std.proofs.lemmas.Bool.Decides.{nat_tests}
use Rattle.spec_data.specs.Lists.{is_among}
use Rattle.spec_terms.specs.Readable.{is_name}
use Rattle.spec_run.specs.declared.event.Event.{Event}
use Rattle.spec_run.specs.declared.event.Run.{Run}
use Rattle.spec_run.specs.declared.header.Header.{Header}
use Rattle.spec_run.specs.declared.header.HeldSecret.{HeldSecret}
use Rattle.spec_text.specs.declared.run_fault.RunFault.{RunFault}
use Rattle.spec_text.specs.declared.run_fault.RunLimit.TheVariants as limits
use Rattle.spec_text.specs.Limits.{most_events, most_run_bytes}
use Rattle.spec_text.specs.Lines.{lines_of, words_of}
use Rattle.spec_text.specs.EventLines.{event_of}
use Rattle.spec_text.specs.RunFile.{Line, bad, over, empty, rule, says, spelled_within, is_long, no_header, Headed, read_header}
use Rattle.spec_text.specs.RunFile.{event_within, event_words}
use Rattle.spec_text.specs.RunFile.{event_of_line, with_event, counted, event_step, read_events, with_header, read_rest, read_run}
use Rattle.spec_text.specs.RunText.{event_text}
use Rattle.spec_text.specs.Refusals.{judged_run, run_of}
use Rattle.theory_text.proofs.ListFacts.{and_left, and_right}
use Rattle.theory_text.proofs.Lines.EventLines.{printed_event}
use Rattle.theory_text.proofs.Lines.LineBytes.{ends_line}
use Rattle.theory_text.proofs.Lines.ReadHeaders.{AllNew, NewSecret, NewDeposit, IsRead, line_keeps, no_header_read}
use Rattle.theory_text.proofs.Lines.Separated.{Lacks}
use Rattle.theory_text.proofs.Lines.ValidHeaders.{header_keeps}
use Rattle.theory_text.proofs.Lines.ValidRuns.{an_event, over_says, bad_says, empty_says, not_long, short_line, a_run, run_eq}
use Rattle.theory_text.proofs.Lines.ValidRuns.{fault_run}
use Rattle.theory_text.proofs.Lines.Words.{count-words}
use Rattle.theory_auto.proofs.EventEnds.{event_ends}
use Rattle.theory_auto.proofs.Shorter.{line_of_words}
use Rattle.theory_play_text.specs.Printable.{IsNamed, IsSpelledEvent}
use Rattle.theory_play_text.proofs.Named.{AllNamed}
use Rattle.theory_play_text.proofs.ReadEvents.{IsReadEvent, read_event}

-- ---- events

lacks_test : (test : ℕ → Bool) (xs : List ℕ) → Lacks test xs → list_all (λ b. not (test b)) xs ≡ true
lacks_test test [] h = refl
lacks_test test (x ∷ xs) h = rw h.0 (lacks_test test xs h.1)

-- the event is spelled by its canonical line, and its names and numbers may be shown
abbrev pub IsKnownEvent : List (List ℕ) → Event → Type 0
IsKnownEvent parties e = IsSpelledEvent parties e × IsReadEvent e

pub record AreKnown (parties : List (List ℕ)) (count : ℕ) (es : List Event) : Type 0 where
  pub all : AllByRecursion (IsKnownEvent parties) es
  pub few : count + length es ≤ 10000

abbrev events_read : List Event → Result (List Event) RunFault
events_read es = Ok es

events_are : (ds es : List Event) → events_read ds ≡ events_read es → ds ≡ es
events_are ds es h = cc

less_is : (n : ℕ) → nat_lt n most_events ≡ true → n + 1 ≤ 10000
less_is n h = grind (arith, nat_tests)

module _ (parties : List (List ℕ)) (names : AllNamed parties) where
  room_within : (count : ℕ) (o : Option Event) (e : Event) → event_within count o ≡ an_event e → nat_lt count most_events ≡ true
  room_within count None e h = absurd (bad_says e h)
  room_within count (Some d) e h = by_room (nat_lt count most_events) h
    where
      by_room : (t : Bool) → spelled_within true t limits.Events d ≡ an_event e → t ≡ true
      by_room true q = refl
      by_room false q = absurd (over_says e q)

  room_words : (count : ℕ) (words : List (List ℕ)) (e : Event) → event_words parties count words ≡ an_event e
      → nat_lt count most_events ≡ true
  room_words count [] e h = absurd (empty_says e h)
  room_words count (w ∷ ws) e h = room_within count (event_of parties (w ∷ ws)) e h

  line_known : (count : ℕ) (line : List ℕ) (e : Event) → event_of_line parties count line ≡ an_event e
      → IsKnownEvent parties e × (count + 1 ≤ 10000)
  line_known count line e h =
      let t = not_long (is_long line) (event_words parties count (words_of line)) e h in
      let short = short_line line t.short in
      let words = count-words line in
      let again = printed_event parties count line e h in
      let read = (line_of_words parties count line e h).read in
      let ends = event_ends parties names (words_of line) e read in (
        (
          record {
            read = (line_of_words parties count (event_text e) e again).read;
            one_line = lacks_test ends_line (event_text e) ends;
          },
          read_event parties (words_of line) e (omega (arith, short, words)) read,
        ),
        less_is count (room_words count (words_of line) e t.is),
      )

  one_known : (count : ℕ) (line : List ℕ) (e : Event) (later : Result (List Event) RunFault) (es : List Event)
      → event_of_line parties count line ≡ an_event e
      → (count + 1 ≤ 10000 → (ds : List Event) → later ≡ events_read ds → AreKnown parties (count + 1) ds)
      → with_event e later ≡ events_read es → AreKnown parties count es
  one_known count line e (Err fault) es is f q = cc
  one_known count line e (Ok ds) es is f q =
      let k = line_known count line e is in
      let later = f k.1 ds refl in
      let all : AreKnown parties count (e ∷ ds) = record { all = (k.0, later.all); few = omega (arith, later.few) } in
      subst (AreKnown parties count) (events_are (e ∷ ds) es q) all

  step_known : (count n : ℕ) (line : List ℕ) (said : Line Event) (later : Result (List Event) RunFault) (es : List Event)
      → event_of_line parties count line ≡ said
      → (counted count said ≤ 10000 → (ds : List Event) → later ≡ events_read ds → AreKnown parties (counted count said) ds)
      → count ≤ 10000 → event_step n said later ≡ events_read es → AreKnown parties count es
  step_known count n line bad later es is f few e = cc
  step_known count n line (over limit) later es is f few e = cc
  step_known count n line empty later es is f few e = f few es e
  step_known count n line rule later es is f few e = cc
  step_known count n line (says event) later es is f few e = one_known count line event later es is f e

  all_known : (count n : ℕ) (lines : List (List ℕ)) (es : List Event) → count ≤ 10000 → read_events parties count n lines ≡ events_read es
      → AreKnown parties count es
  all_known count n [] es few e =
      let none : AreKnown parties count [] = record { all = tt; few = omega (arith, few) } in
      subst (AreKnown parties count) (events_are [] es e) none
  all_known count n (line ∷ lines) es few e =
      let said = event_of_line parties count line in
      step_known count n line said (read_events parties (counted count said) (n + 1) lines) es refl
      (λ l ds q. all_known (counted count said) (n + 1) lines ds l q) few e

-- ---- the header

secrets_named : (honest : List (List ℕ)) (done xs : List HeldSecret) → AllNew (NewSecret honest) done xs
    → AllByRecursion (λ (x : HeldSecret). IsNamed x.party × IsNamed x.name) xs
secrets_named honest done [] h = tt
secrets_named honest done (x ∷ xs) h = (
  (h.0.named, and_right (is_among x.party honest) (is_name x.name) (and_left _ _ h.0.spelled)),
  secrets_named honest
      (done ++ x ∷ []) xs h.1,
)

deposits_named : (parties : List (List ℕ)) (done xs : List (List ℕ × ℕ)) → AllNew (NewDeposit parties) done xs
    → AllByRecursion (λ (d : List ℕ × ℕ). IsNamed (d.0)) xs
deposits_named parties done [] h = tt
deposits_named parties done (x ∷ xs) h = (h.0.named, deposits_named parties (done ++ x ∷ []) xs h.1)

-- ---- the run

pub record IsKnownRun (header : Header) (es : List Event) : Type 0 where
  pub parties : AllNamed header.parties
  pub secrets : AllByRecursion (λ (x : HeldSecret). IsNamed x.party × IsNamed x.name) header.secrets
  pub deposits : AllByRecursion (λ (d : List ℕ × ℕ). IsNamed (d.0)) header.deposits
  pub events : AreKnown header.parties 0 es

abbrev of_run : Run → Type 0
of_run run = IsKnownRun run.header run.events

made_known : (header : Header) (read : Result (List Event) RunFault) (run : Run) → IsRead header
    → ((es : List Event) → read ≡ events_read es → AreKnown header.parties 0 es) → with_header header read ≡ a_run run → of_run run
made_known header (Err fault) run is f e = absurd (fault_run fault run e)
made_known header (Ok es) run is f e =
    let this : of_run (record { header = header; events = es }) = record {
      parties = is.party_names;
      secrets = secrets_named header.honest [] header.secrets is.secrets';
      deposits = deposits_named header.parties [] header.deposits is.deposits';
      events = f es refl;
    } in
    subst of_run (run_eq (record { header = header; events = es }) run e) this

rest_known : (text : List ℕ) (run : Run) (read : Result Headed RunFault) → read_header no_header 1 (lines_of text) ≡ read
    → read_rest read ≡ a_run run → of_run run
rest_known text run (Err fault) is e = absurd (fault_run fault run e)
rest_known text run (Ok x) is e =
    let head = header_keeps IsRead (λ g k line. line_keeps g k line) no_header 1 (lines_of text) x no_header_read is in
    made_known (x.0) (read_events (x.0.parties) 0 (x.2) (x.1)) run head
    (λ es q. all_known (x.0.parties) head.party_names 0 (x.2) (x.1) es (omega arith) q) e

judged_is : (read : Result Run RunFault) (run : Run) → judged_run read ≡ Ok run → read ≡ a_run run
judged_is (Ok q) run h = cc
judged_is (Err fault) run h = cc

-- a run that a run file spells
pub run_known : (text : List ℕ) (run : Run) → run_of text ≡ Ok run → IsKnownRun run.header run.events
run_known text run h = by_size (nat_lt most_run_bytes (length text)) h
  where
    by_size : (t : Bool) → (if t then Err (codes "limit Size line 0") else judged_run (read_run text)) ≡ Ok run
        → IsKnownRun run.header run.events
    by_size true e = cc
    by_size false e = rest_known text run (read_header no_header 1 (lines_of text)) refl (judged_is (read_run text) run e)
