-- The canonical line of an event that some line spells is read as that event.
use Rattle.std.proofs.Common.{◌≡◌, ℕ, ◌≤◌, Bool, true, false, List, [], ◌∷◌, length, Option, Some, None, refl, ap, ◌∙◌, arith}
use Rattle.std.specs.Prelude.{if◌then◌else◌, nat_lt}
use Rattle.std.specs.List.{AllZip, AllByRecursion}
use Rattle.std.proofs.lemmas.Bool.Decides.{nat_tests}
use Rattle.spec_run.specs.declared.event.Event.{Event}
use Rattle.spec_text.specs.declared.run_fault.RunLimit.TheVariants as limits
use Rattle.spec_text.specs.Limits.{most_events}
use Rattle.spec_text.specs.Lines.{words_of}
use Rattle.spec_text.specs.EventLines.{event_of}
use Rattle.spec_text.specs.RunText.{event_text}
use Rattle.spec_text.specs.RunFile.{Line, over, spelled_within, is_long, event_within, event_words, event_of_line}
use Rattle.spec_text.specs.Statements.{PrintedEventTheorem}
use Rattle.theory_text.proofs.Options.{some, none_some}
use Rattle.theory_text.proofs.Lines.Words.{total}
use Rattle.theory_text.proofs.Lines.Separated.{IsWord, spaced, line_words, spaced_words, spaced_length}
use Rattle.theory_text.proofs.Lines.Digests.{Twin}
use Rattle.theory_text.proofs.Lines.Events.{Canonical, event_again}
use Rattle.theory_text.proofs.Lines.ValidRuns.{an_event, event_eq, over_says, bad_says, empty_says, not_long, short_line}

-- ---- words in place of words

record AsLong (words again : List (List ℕ)) : Type 0 where
  bytes : total again ≡ total words
  count : length again ≡ length words

twins_long : (words again : List (List ℕ)) → AllZip Twin words again → AsLong words again
twins_long [] [] h = record { bytes = refl; count = refl }
twins_long [] (v ∷ again) h = absurd h
twins_long (w ∷ words) [] h = absurd h
twins_long (w ∷ words) (v ∷ again) h =
    let t = twins_long words again h.1 in
    record { bytes = omega (arith, t.bytes, h.0.size); count = omega (arith, t.count) }

twin_word : (w v : List ℕ) → Twin w v → IsWord w → IsWord v
twin_word w v t is = record { some = omega (arith, t.size, is.some); lacks = t.lacks is.lacks }

twin_words : (words again : List (List ℕ)) → AllZip Twin words again → AllByRecursion IsWord words → AllByRecursion IsWord again
twin_words [] [] h is = tt
twin_words [] (v ∷ again) h is = absurd h
twin_words (w ∷ words) [] h is = absurd h
twin_words (w ∷ words) (v ∷ again) h is = (twin_word w v h.0 is.0, twin_words words again h.1 is.1)

-- ---- a line that says an event

record Room (count : ℕ) (d e : Event) : Type 0 where
  room : nat_lt count most_events ≡ true
  same : d ≡ e

room_is : (count : ℕ) (t : Bool) (d e : Event) → nat_lt count most_events ≡ t → spelled_within true t limits.Events d ≡ an_event e → Room count d e
room_is count true d e h k = record { room = h; same = event_eq d e k }
room_is count false d e h k = absurd (over_says e k)

record Spelled (parties : List (List ℕ)) (count : ℕ) (words : List (List ℕ)) (e : Event) : Type 0 where
  read : event_of parties words ≡ some e
  room : nat_lt count most_events ≡ true
  some' : 1 ≤ length words

within_event : (count : ℕ) (o : Option Event) (e : Event) → event_within count o ≡ an_event e → (nat_lt count most_events ≡ true) × (o ≡ some e)
within_event count None e h = absurd (bad_says e h)
within_event count (Some d) e h = let r = room_is count (nat_lt count most_events) d e refl h in (r.room, ap some r.same)

spelled_is : (parties : List (List ℕ)) (count : ℕ) (words : List (List ℕ)) (e : Event) → event_words parties count words ≡ an_event e
    → Spelled parties count words e
spelled_is parties count [] e h = absurd (empty_says e h)
spelled_is parties count (w ∷ ws) e h =
    let p = within_event count (event_of parties (w ∷ ws)) e h in
    record { read = p.1; room = p.0; some' = omega arith }

-- ---- its canonical line

room_again : (count : ℕ) (e : Event) → nat_lt count most_events ≡ true → event_within count (some e) ≡ an_event e
room_again count e h = rw h refl

words_again : (parties : List (List ℕ)) (count : ℕ) (words : List (List ℕ)) (e : Event) → event_of parties words ≡ some e
    → nat_lt count most_events ≡ true → event_words parties count words ≡ an_event e
words_again parties count [] e h room = absurd (none_some e h)
words_again parties count (w ∷ ws) e h room = ap (event_within count) h ∙ room_again count e room

not_longer : (text line : List ℕ) → length text ≤ length line → is_long line ≡ false → is_long text ≡ false
not_longer text line le h = let n = short_line line h in grind (arith, nat_tests)

short_says : (text : List ℕ) (said : Line Event) → is_long text ≡ false → (if is_long text then over limits.Line else said) ≡ said
short_says text said h = rw h refl

line_again : (parties : List (List ℕ)) (count : ℕ) (line : List ℕ) (e : Event) → is_long line ≡ false
    → Spelled parties count (words_of line) e → Canonical parties (words_of line) e → event_of_line parties count (event_text e) ≡ an_event e
line_again parties count line e short is c =
    let long = twins_long (words_of line) c.again c.twins in
    let fits = spaced_length line c.again (omega (arith, long.count, is.some')) long.bytes long.count in
    let cut = spaced_words c.again (twin_words (words_of line) c.again c.twins (line_words line)) in
    let said : event_words parties count (words_of (spaced c.again)) ≡ an_event e =
    ap (event_words parties count) cut ∙ words_again parties count c.again e c.read is.room in
    let all = short_says (spaced c.again) (event_words parties count (words_of (spaced c.again))) (not_longer (spaced c.again) line fits short) ∙ said in
    ap (event_of_line parties count) c.text ∙ all

pub printed_event : PrintedEventTheorem
printed_event parties count line e h =
    let t = not_long (is_long line) (event_words parties count (words_of line)) e h in
    let is = spelled_is parties count (words_of line) e t.is in
    line_again parties count line e t.short is (event_again parties (words_of line) e is.read)
