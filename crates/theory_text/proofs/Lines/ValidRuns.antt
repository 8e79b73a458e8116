-- The runs that run files spell are those of which the theorems on runs speak.
use Rattle.std.proofs.Common.{◌≡◌, ℕ, ◌+◌, ◌*◌, ◌≤◌, Bool, true, false, List, [], ◌∷◌, length, Option, Some, None, Ok, Err, refl, sym, ap, subst, arith}
use Rattle.std.specs.Prelude.{if◌then◌else◌, nat_lt, Result}
use Rattle.std.specs.List.{AllByRecursion}
use Rattle.std.proofs.lemmas.Bool.Decides.{nat_tests}
use Rattle.spec_run.specs.Setup.{Setup}
use Rattle.spec_run.specs.Conditions.{IsHeader, IsEvent}
use Rattle.spec_run.specs.declared.event.Event.{Event}
use Rattle.spec_run.specs.declared.event.Run.{Run}
use Rattle.spec_run.specs.declared.header.Header.{Header}
use Rattle.spec_text.specs.declared.run_fault.RunLimit.TheVariants as limits
use Rattle.spec_text.specs.declared.run_fault.RunFault.{RunFault}
use Rattle.spec_text.specs.Limits.{most_events, most_run_bytes}
use Rattle.spec_text.specs.Lines.{lines_of, words_of}
use Rattle.spec_text.specs.EventLines.{event_of}
use Rattle.spec_text.specs.RunFile.{Line, bad, over, empty, rule, says, spelled_within, is_long, no_header, Headed, read_header, event_within, event_words, event_of_line, with_event, counted, event_step, read_events, with_header, read_rest, read_run}
use Rattle.spec_text.specs.Refusals.{Judged, judged_run, run_of}
use Rattle.theory_text.specs.RunFiles.{IsReadRun}
use Rattle.theory_text.proofs.Lines.Words.{total, total-words, count-words}
use Rattle.theory_text.proofs.Lines.ValidEvents.{event_is}
use Rattle.theory_text.proofs.Lines.ValidHeaders.{no_header_is, header_is}

-- ---- a line

abbrev pub an_event : Event → Line Event
an_event e = says e

pub event_eq : (d e : Event) → an_event d ≡ an_event e → d ≡ e
event_eq d e h = cc

pub over_says : (e : Event) → over limits.Events ≡ an_event e → ⊥
over_says e h = cc

long_says : (e : Event) → over limits.Line ≡ an_event e → ⊥
long_says e h = cc

pub bad_says : (e : Event) → bad ≡ an_event e → ⊥
bad_says e h = cc

pub empty_says : (e : Event) → empty ≡ an_event e → ⊥
empty_says e h = cc

within_is : (room : Bool) (d e : Event) → spelled_within true room limits.Events d ≡ an_event e → d ≡ e
within_is true d e h = event_eq d e h
within_is false d e h = absurd (over_says e h)

said_is : (s : Setup) (count : ℕ) (o : Option Event) (e : Event) → ((d : Event) → o ≡ Some d → IsEvent s d) → event_within count o ≡ an_event e → IsEvent s e
said_is s count None e f h = absurd (bad_says e h)
said_is s count (Some d) e f h = subst (IsEvent s) (within_is (nat_lt count most_events) d e h) (f d refl)

words_are : (s : Setup) (count : ℕ) (words : List (List ℕ)) (e : Event) → total words ≤ 1048576 → 2 * length words ≤ 1048577
    → event_words s.header.parties count words ≡ an_event e → IsEvent s e
words_are s count [] e size few h = absurd (empty_says e h)
words_are s count (w ∷ ws) e size few h = said_is s count (event_of s.header.parties (w ∷ ws)) e (λ d is. event_is s (w ∷ ws) d size few is) h

pub record Short (long : Bool) (said : Line Event) (e : Event) : Type 0 where
  pub short : long ≡ false
  pub is : said ≡ an_event e

pub not_long : (long : Bool) (said : Line Event) (e : Event) → (if long then over limits.Line else said) ≡ an_event e → Short long said e
not_long true said e h = absurd (long_says e h)
not_long false said e h = record { short = refl; is = h }

pub short_line : (line : List ℕ) → is_long line ≡ false → length line ≤ 1048576
short_line line h = grind (arith, nat_tests)

line_is : (s : Setup) (count : ℕ) (line : List ℕ) (e : Event) → event_of_line s.header.parties count line ≡ an_event e → IsEvent s e
line_is s count line e h =
    let t = not_long (is_long line) (event_words s.header.parties count (words_of line)) e h in
    let n = short_line line t.short in
    words_are s count (words_of line) e (omega (arith, total-words line, n)) (omega (arith, count-words line, n)) t.is

-- ---- all lines

abbrev events_read : List Event → Result (List Event) RunFault
events_read es = Ok es

events_eq : (ds es : List Event) → events_read ds ≡ events_read es → ds ≡ es
events_eq ds es h = cc

fault_read : (f : RunFault) (es : List Event) → Err f ≡ events_read es → ⊥
fault_read f es h = cc

onto_events : (s : Setup) (e : Event) (later : Result (List Event) RunFault) (es : List Event) → IsEvent s e
    → ((ds : List Event) → later ≡ events_read ds → AllByRecursion (IsEvent s) ds) → with_event e later ≡ events_read es → AllByRecursion (IsEvent s) es
onto_events s e (Ok ds) es is f h = subst (AllByRecursion (IsEvent s)) (events_eq (e ∷ ds) es h) (is, f ds refl)
onto_events s e (Err fault) es is f h = absurd (fault_read fault es h)

step_is : (s : Setup) (n : ℕ) (said : Line Event) (later : Result (List Event) RunFault) (es : List Event)
    → ((e : Event) → said ≡ an_event e → IsEvent s e) → ((ds : List Event) → later ≡ events_read ds → AllByRecursion (IsEvent s) ds)
    → event_step n said later ≡ events_read es → AllByRecursion (IsEvent s) es
step_is s n bad later es f g h = absurd (fault_read _ es h)
step_is s n (over w) later es f g h = absurd (fault_read _ es h)
step_is s n empty later es f g h = g es h
step_is s n rule later es f g h = absurd (fault_read _ es h)
step_is s n (says e) later es f g h = onto_events s e later es (f e refl) g h

events_are : (s : Setup) (count n : ℕ) (lines : List (List ℕ)) (es : List Event) → read_events s.header.parties count n lines
    ≡ events_read es → AllByRecursion (IsEvent s) es
events_are s count n [] es h = subst (AllByRecursion (IsEvent s)) (events_eq [] es h) tt
events_are s count n (line ∷ lines) es h =
    step_is s n (event_of_line s.header.parties count line)
    (read_events s.header.parties (counted count (event_of_line s.header.parties count line)) (n + 1) lines) es (line_is s count line)
    (events_are s (counted count (event_of_line s.header.parties count line)) (n + 1) lines) h

-- ---- the run

abbrev pub a_run : Run → Result Run RunFault
a_run r = Ok r

pub run_eq : (q r : Run) → a_run q ≡ a_run r → q ≡ r
run_eq q r h = cc

pub fault_run : (f : RunFault) (r : Run) → Err f ≡ a_run r → ⊥
fault_run f r h = cc

header_and_events : (header : Header) (read : Result (List Event) RunFault) (run : Run) → IsHeader header
    → ((es : List Event) → read ≡ events_read es → (s : Setup) → s.header ≡ header → AllByRecursion (IsEvent s) es)
    → with_header header read ≡ a_run run → IsReadRun run
header_and_events header (Ok es) run is f h =
    subst IsReadRun (run_eq (record { header = header; events = es }) run h) (record { header = is; events = f es refl })
header_and_events header (Err fault) run is f h = absurd (fault_run fault run h)

rest_is : (headed : Result Headed RunFault) (run : Run) → ((x : Headed) → headed ≡ Ok x → IsHeader (x.0)) → read_rest headed ≡ a_run run → IsReadRun run
rest_is (Err fault) run f h = absurd (fault_run fault run h)
rest_is (Ok x) run f h =
    header_and_events (x.0) (read_events (x.0.parties) 0 (x.2) (x.1)) run (f x refl)
    (λ es e s same. events_are s 0 (x.2) (x.1) es (subst (λ (k : Header). read_events k.parties 0 (x.2) (x.1) ≡ events_read es) (sym same) e)) h

run_is : (text : List ℕ) (run : Run) → read_run text ≡ a_run run → IsReadRun run
run_is text run h = rest_is (read_header no_header 1 (lines_of text)) run (λ x e. header_is no_header 1 (lines_of text) x no_header_is e) h

-- ---- the file

abbrev taken : Run → Judged Run
taken r = Ok r

taken_eq : (q r : Run) → taken q ≡ taken r → q ≡ r
taken_eq q r h = cc

refused_taken : (why : List ℕ) (r : Run) → Err why ≡ taken r → ⊥
refused_taken why r h = cc

judged_is : (read : Result Run RunFault) (run : Run) → judged_run read ≡ taken run → read ≡ a_run run
judged_is (Ok q) run h = ap a_run (taken_eq q run h)
judged_is (Err fault) run h = absurd (refused_taken _ run h)

not_refused : (t : Bool) (why : List ℕ) (judged : Judged Run) (run : Run) → (if t then Err why else judged) ≡ taken run → judged ≡ taken run
not_refused true why judged run h = absurd (refused_taken why run h)
not_refused false why judged run h = h

pub run_file_is : (text : List ℕ) (run : Run) → run_of text ≡ Ok run → IsReadRun run
run_file_is text run h =
    run_is text run (judged_is (read_run text) run (not_refused (nat_lt most_run_bytes (length text)) _ (judged_run (read_run text)) run h))
