-- The text of the generated run is valid and spells it.
use Rattle.std.proofs.Common.{◌≡◌, ℕ, ◌+◌, ◌*◌, ◌<◌, ◌≤◌, Bool, true, not, List, [], ◌∷◌, ◌++◌, length, map, Some, Ok}
use Rattle.std.proofs.Common.{refl, sym, ap, subst, ◌∙◌, arith, append_assoc}
use Rattle.std.specs.Prelude.{◌&&◌, nat_le, flat_map, codes}
use Rattle.std.specs.Fmt.{digits}
use Rattle.std.specs.List.{list_all, AllByRecursion}
use Rattle.std.proofs.lemmas.Bool.{lt-ltb, le-ltb}
use Rattle.std.proofs.lemmas.List.{length-append}
use Rattle.spec_data.specs.Digits.{hex_text}
use Rattle.spec_run.specs.declared.event.Event.{Event}
use Rattle.spec_run.specs.declared.event.Run.{Run}
use Rattle.spec_run.specs.declared.header.HeldSecret.{HeldSecret}
use Rattle.spec_text.specs.declared.run_fault.RunLimit.TheVariants as limits
use Rattle.spec_text.specs.Limits.{most_events, most_run_bytes}
use Rattle.spec_text.specs.Lines.{words_of, lines_of}
use Rattle.spec_text.specs.EventLines.{event_of}
use Rattle.spec_text.specs.RunText.{newline, event_text, secret_text, deposit_text, run_text}
use Rattle.spec_text.specs.RunFile.{Line, over, says, event_within, event_words, event_of_line}
use Rattle.spec_text.specs.RunFile.{with_event, counted, event_step, read_events}
use Rattle.spec_text.specs.RunFile.{no_header, read_header, with_header, read_rest, read_run}
use Rattle.spec_text.specs.Refusals.{run_of}
use Rattle.spec_text.specs.Generator.{Generated, party_a, party_b, held, held_from, generated_header, generated_events, generated_secrets}
use Rattle.theory_text.proofs.ListFacts.{and_left, and_right}
use Rattle.theory_text.proofs.Lines.LineBytes.{ends_line, lined, lines_again, lined_map, spaced_ends, line_is, line_ends}
use Rattle.theory_text.proofs.Lines.ReadHeaders.{secret_words}
use Rattle.theory_text.proofs.Lines.Separated.{Lacks, spaced, spaced_words}
use Rattle.theory_text.proofs.Printed.Tests.{le_is}
use Rattle.theory_generator.specs.GeneratedRuns.{GeneratedRunsTaken}
use Rattle.theory_generator.proofs.HeaderLines.{prefix_lines, secret_lines, back_lines, header_read}
use Rattle.theory_generator.proofs.GeneratedEvents.{events_spelled}
use Rattle.theory_generator.proofs.GeneratedSecrets.{secret_line_is}
use Rattle.theory_generator.proofs.NumberWords.{lacks_by, not_long}
use Rattle.theory_generator.proofs.Participants.{both_parties}
use Rattle.theory_generator.proofs.Secrets.{AreGenerated, secrets_drawn}
use Rattle.theory_generator.proofs.SpelledEvents.{IsSpelled, AllSpelled}

-- ---- the lines of the text

abbrev event_lines : List Event → List (List ℕ)
event_lines es = map event_text es

abbrev all_lines : List Generated → List Event → List (List ℕ)
all_lines ms es = prefix_lines ++ (secret_lines (held_from 1 ms) ++ (back_lines ++ event_lines es))

abbrev run_with : List Generated → List Event → Run
run_with ms es = record { header = generated_header ms; events = es }

events_lined : (es : List Event) → flat_map (λ e. event_text e ++ newline) es ≡ lined (event_lines es)
events_lined [] = refl
events_lined (e ∷ es) = ap (λ (xs : List ℕ). (event_text e ++ newline) ++ xs) (events_lined es)

three_last : (a b c rest : List ℕ) → a ++ 32 ∷ (b ++ 32 ∷ (c ++ rest)) ≡ (a ++ 32 ∷ (b ++ 32 ∷ (c ++ []))) ++ rest
three_last a b c rest = simp append_assoc

secret_lined : (s : HeldSecret) → secret_text s ≡ spaced (secret_words s) ++ newline
secret_lined s = ap (λ (xs : List ℕ). codes "secret " ++ xs) (three_last s.party s.name (hex_text s.bytes) newline)

-- the deposits, and the line that ends the header
abbrev back_text : List ℕ
back_text = flat_map deposit_text ((party_a, 1000000) ∷ (party_b, 0) ∷ (party_b, 1000000000) ∷ []) ++ (codes "--" ++ newline)

back_lined : back_text ≡ lined back_lines
unfolding digits
back_lined = refl

text_lined : (ms : List Generated) (es : List Event) → run_text (run_with ms es) ≡ lined (all_lines ms es)
text_lined ms es =
    let hs = held_from 1 ms in
    let events = flat_map (λ e. event_text e ++ newline) es in
    let lines = event_lines es in
    let back : back_text ++ events ≡ lined (back_lines ++ lines) = λ i. back_lined i ++ events_lined es i in
    let secrets : (flat_map secret_text hs ++ back_text) ++ events ≡ lined (secret_lines hs ++ (back_lines ++ lines)) =
    append_assoc (flat_map secret_text hs) back_text events
    ∙ (ap (λ (xs : List ℕ). flat_map secret_text hs ++ xs) back
    ∙ lined_map secret_text (λ s. spaced (secret_words s)) secret_lined hs (back_lines ++ lines)) in
    ap (λ (xs : List ℕ). lined prefix_lines ++ xs) secrets

-- ---- each line is short and ends nowhere within

record IsLine (line : List ℕ) : Type 0 where
  ends : Lacks ends_line line
  short : length line ≤ 100

abbrev is_line : List ℕ → Bool
is_line line = list_all (λ b. not (ends_line b)) line && nat_le (length line) 100

fixed_line : (line : List ℕ) → is_line line ≡ true → IsLine line
fixed_line line h = record {
  ends = lacks_by ends_line line (and_left _ _ h);
  short = le_is (length line) 100 (and_right (list_all (λ b. not (ends_line b)) line) _ h);
}

fixed_before : (lines rest : List (List ℕ)) → list_all is_line lines ≡ true → AllByRecursion IsLine rest
    → AllByRecursion IsLine (lines ++ rest)
fixed_before [] rest h k = k
fixed_before (line ∷ lines) rest h k =
    (fixed_line line (and_left _ _ h), fixed_before lines rest (and_right (is_line line) _ h) k)

secrets_before : (j : ℕ) (ms : List Generated) (rest : List (List ℕ)) → AreGenerated j ms → j + length ms ≤ 100 → AllByRecursion IsLine rest
    → AllByRecursion IsLine (secret_lines (held_from j ms) ++ rest)
secrets_before j [] rest made small k = k
secrets_before j (m ∷ ms) rest made small k =
    let words = secret_words (held j m) in
    let line = secret_line_is j m made.0 (omega (arith, small)) in
    let first : IsLine (spaced words) = record { ends = spaced_ends words (line_ends words line.all); short = line.short } in
    (first, secrets_before (j + 1) ms rest made.1 (omega (arith, small)) k)

event_line : (e : Event) → IsSpelled e → IsLine (event_text e)
event_line e s = subst IsLine (sym s.text) (record { ends = spaced_ends s.words (line_ends s.words s.all); short = s.short })

events_are_lines : (es : List Event) → AllSpelled es → AllByRecursion IsLine (event_lines es)
events_are_lines [] h = tt
events_are_lines (e ∷ es) h = (event_line e h.0, events_are_lines es h.1)

all_are_lines : (ms : List Generated) (es : List Event) → AreGenerated 1 ms → length ms ≤ 30 → AllSpelled es
    → AllByRecursion IsLine (all_lines ms es)
all_are_lines ms es made few h =
    let back = fixed_before back_lines (event_lines es) refl (events_are_lines es h) in
    fixed_before prefix_lines _ refl (secrets_before 1 ms _ made (omega (arith, few)) back)

lines_end : (lines : List (List ℕ)) → AllByRecursion IsLine lines → AllByRecursion (Lacks ends_line) lines
lines_end [] h = tt
lines_end (line ∷ lines) h = (h.0.ends, lines_end lines h.1)

-- ---- its length

lined-length : (lines : List (List ℕ)) → AllByRecursion IsLine lines → length (lined lines) ≤ 101 * length lines
lined-length [] h = omega arith
lined-length (line ∷ lines) h =
    omega (
      arith,
      length-append (line ++ newline) (lined lines),
      length-append line newline,
      h.0.short,
      lined-length lines h.1,
    )

count-secrets : (j : ℕ) (ms : List Generated) → length (secret_lines (held_from j ms)) ≡ length ms
count-secrets j [] = refl
count-secrets j (m ∷ ms) = omega (arith, count-secrets (j + 1) ms)

count-events : (es : List Event) → length (event_lines es) ≡ length es
count-events [] = refl
count-events (e ∷ es) = omega (arith, count-events es)

count-lines : (ms : List Generated) (es : List Event) → length (all_lines ms es) ≡ length ms + length es + 8
count-lines ms es =
    omega (
      arith,
      length-append (secret_lines (held_from 1 ms)) (back_lines ++ event_lines es),
      count-secrets 1 ms,
      count-events es,
    )

-- ---- the events are read

words_say : (count : ℕ) (words : List (List ℕ)) (e : Event) → event_of both_parties words ≡ Some e → count < 10000
    → event_words both_parties count words ≡ says e
words_say count [] e read few = absurd cc
words_say count (w ∷ ws) e read few = ap (event_within count) read ∙ rw (lt-ltb count most_events few) refl

line_says : (count : ℕ) (e : Event) → IsSpelled e → count < 10000 → event_of_line both_parties count (event_text e) ≡ says e
line_says count e s few =
    let words = spaced_words s.words (line_is s.words s.all) in
    ap (event_of_line both_parties count) s.text
    ∙ (not_long (spaced s.words) (over limits.Line) (event_words both_parties count (words_of (spaced s.words))) s.short
    ∙ (ap (event_words both_parties count) words ∙ words_say count s.words e s.read few))

events_read : (es : List Event) (count n : ℕ) → AllSpelled es → count + length es ≤ 10000
    → read_events both_parties count n (event_lines es) ≡ Ok es
events_read [] count n h few = refl
events_read (e ∷ es) count n h few =
    let later = λ (said : Line Event). read_events both_parties (counted count said) (n + 1) (event_lines es) in
    ap (λ (said : Line Event). event_step n said (later said)) (line_says count e h.0 (omega (arith, few)))
    ∙ ap (with_event e) (events_read es (count + 1) (n + 1) h.1 (omega (arith, few)))

-- ---- the run is read

run_read : (ms : List Generated) (es : List Event) → AreGenerated 1 ms → length ms ≤ 30 → AllSpelled es → length es ≤ 9069
    → read_run (run_text (run_with ms es)) ≡ Ok (run_with ms es)
run_read ms es made few h most =
    let ends = lines_end (all_lines ms es) (all_are_lines ms es made few h) in
    let lines = ap lines_of (text_lined ms es) ∙ lines_again (all_lines ms es) ends in
    let header = header_read ms (event_lines es) made few in
    let events = events_read es 0 header.number h (omega (arith, most)) in
    ap (λ (ls : List (List ℕ)). read_rest (read_header no_header 1 ls)) lines
    ∙ (ap read_rest header.read ∙ ap (with_header (generated_header ms)) events)

run_short : (ms : List Generated) (es : List Event) → AreGenerated 1 ms → length ms ≤ 30 → AllSpelled es → length es ≤ 9069
    → length (run_text (run_with ms es)) ≤ 1000000
run_short ms es made few h most =
    let lines = all_lines ms es in
    let all : length (lined lines) ≤ 1000000 =
    omega (arith, lined-length lines (all_are_lines ms es made few h), count-lines ms es, few, most) in
    subst (λ (text : List ℕ). length text ≤ 1000000) (sym (text_lined ms es)) all

taken_by : (text : List ℕ) (run : Run) → length text ≤ 1000000 → read_run text ≡ Ok run → run_of text ≡ Ok run
taken_by text run short read = rw (le-ltb most_run_bytes (length text) (omega (arith, short)), read) refl

pub run_taken : GeneratedRunsTaken
run_taken number size few =
    let d = generated_secrets number size in
    let made = secrets_drawn size 1 number in
    let es = generated_events size (d.1) in
    let events = events_spelled size (d.1) few in
    let count : length (d.0) ≤ 30 = omega (arith, made.count, few) in
    let most : length es ≤ 9069 = omega (arith, events.many, few) in
    let short = run_short (d.0) es made.made count events.spelled most in
    let read = run_read (d.0) es made.made count events.spelled most in
    record { taken = taken_by (run_text (run_with (d.0) es)) (run_with (d.0) es) short read; count = events.many }
