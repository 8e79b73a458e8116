-- A run file spells no more events than it may have.
use Rattle.std.proofs.Common.{◌≡◌, ℕ, ◌+◌, ◌≤◌, nat_lt, Bool, true, false, List, [], ◌∷◌, length, Option, Some, None, Result, Ok, Err, refl, subst, arith}
use Rattle.std.specs.Prelude.{if◌then◌else◌}
use Rattle.std.proofs.lemmas.Bool.Decides.{nat_tests}
use Rattle.spec_run.specs.declared.event.Event.{Event}
use Rattle.spec_run.specs.declared.event.Run.{Run}
use Rattle.spec_run.specs.declared.header.Header.{Header}
use Rattle.spec_text.specs.declared.run_fault.RunFault.{RunFault}
use Rattle.spec_text.specs.declared.run_fault.RunLimit.TheVariants as limits
use Rattle.spec_text.specs.Limits.{most_events, most_run_bytes}
use Rattle.spec_text.specs.Lines.{lines_of, words_of}
use Rattle.spec_text.specs.EventLines.{event_of}
use Rattle.spec_text.specs.RunFile.{Line, bad, over, empty, rule, says, spelled_within, is_long, no_header, Headed, read_header, event_within, event_words, event_of_line, counted, event_step, read_events, with_header, read_rest, read_run}
use Rattle.spec_text.specs.Refusals.{Judged, judged_run}
use Rattle.spec_tool.specs.Reads.{Text}
use Rattle.spec_tool.specs.Answers.{run_in}

-- ---- a line

-- a line that says an event has room for it
abbrev Fits : ℕ → Line Event → Type 0
Fits count (says event) = nat_lt count most_events ≡ true
Fits count bad = Unit {0}
Fits count (over limit) = Unit {0}
Fits count empty = Unit {0}
Fits count rule = Unit {0}

spelled_fits : (count : ℕ) (t : Bool) (event : Event) → nat_lt count most_events ≡ t → Fits count (spelled_within true t limits.Events event)
spelled_fits count true event e = e
spelled_fits count false event e = tt

within_fits : (count : ℕ) (o : Option Event) → Fits count (event_within count o)
within_fits count None = tt
within_fits count (Some event) = spelled_fits count (nat_lt count most_events) event refl

words_fit : (parties : List (List ℕ)) (count : ℕ) (words : List (List ℕ)) → Fits count (event_words parties count words)
words_fit parties count [] = tt
words_fit parties count (w ∷ ws) = within_fits count (event_of parties (w ∷ ws))

unless_long : (count : ℕ) (long : Bool) (said : Line Event) → Fits count said → Fits count (if long then over limits.Line else said)
unless_long count true said h = tt
unless_long count false said h = h

line_fits : (parties : List (List ℕ)) (count : ℕ) (line : List ℕ) → Fits count (event_of_line parties count line)
line_fits parties count line = unless_long count (is_long line) (event_words parties count (words_of line)) (words_fit parties count (words_of line))

-- ---- all lines

counted_fits : (count : ℕ) (said : Line Event) → count ≤ most_events → Fits count said → counted count said ≤ most_events
counted_fits count (says event) le h = grind (arith, nat_tests)
counted_fits count bad le h = le
counted_fits count (over limit) le h = le
counted_fits count empty le h = le
counted_fits count rule le h = le

-- behind so many there are no more than there may be
abbrev AreFew : ℕ → Result (List Event) RunFault → Type 0
AreFew count (Ok es) = count + length es ≤ most_events
AreFew count (Err fault) = Unit {0}

step_few : (count n : ℕ) (said : Line Event) (later : Result (List Event) RunFault) → AreFew (counted count said) later → AreFew count (event_step n said later)
step_few count n (says event) (Ok es) h = omega (arith, h)
step_few count n (says event) (Err fault) h = tt
step_few count n bad later h = tt
step_few count n (over limit) later h = tt
step_few count n empty later h = h
step_few count n rule later h = tt

events_few : (parties : List (List ℕ)) (count n : ℕ) (lines : List (List ℕ)) → count ≤ most_events → AreFew count (read_events parties count n lines)
events_few parties count n [] le = omega (arith, le)
events_few parties count n (line ∷ lines) le =
    let said = event_of_line parties count line in
    step_few count n said (read_events parties (counted count said) (n + 1) lines)
    (events_few parties (counted count said) (n + 1) lines (counted_fits count said le (line_fits parties count line)))

-- ---- the run

-- a run with no more events than it may have
abbrev Small : Result Run RunFault → Type 0
Small (Ok run) = length run.events ≤ most_events
Small (Err fault) = Unit {0}

with_header_small : (h : Header) (es : Result (List Event) RunFault) → AreFew 0 es → Small (with_header h es)
with_header_small h (Ok es) few = omega (arith, few)
with_header_small h (Err fault) few = tt

rest_small : (headed : Result Headed RunFault) → Small (read_rest headed)
rest_small (Err fault) = tt
rest_small (Ok headed) =
    with_header_small (headed.0) (read_events (headed.0.parties) 0 (headed.2) (headed.1)) (events_few (headed.0.parties) 0 (headed.2) (headed.1) (omega arith))

abbrev IsSmall : Judged Run → Type 0
IsSmall (Ok run) = length run.events ≤ most_events
IsSmall (Err why) = Unit {0}

judged_small : (read : Result Run RunFault) → Small read → IsSmall (judged_run read)
judged_small (Ok run) h = h
judged_small (Err fault) h = tt

unless_size : (long : Bool) (why : List ℕ) (judged : Judged Run) → IsSmall judged → IsSmall (if long then Err why else judged)
unless_size true why judged h = tt
unless_size false why judged h = h

in_small : (text : Text) → IsSmall (run_in text)
in_small None = tt
in_small (Some text) =
    unless_size (nat_lt most_run_bytes (length text)) _ (judged_run (read_run text))
    (judged_small (read_run text) (rest_small (read_header no_header 1 (lines_of text))))

pub few_events : (text : Text) (run : Run) → run_in text ≡ Ok run → length run.events ≤ most_events
few_events text run e = subst IsSmall e (in_small text)
