-- A header's canonical text with lines of events behind it is read as that header and those events.
use Rattle.std.proofs.Common.{◌≡◌, ℕ, ◌+◌, ◌≤◌, Bool, List, [], ◌∷◌, ◌++◌, length, map, Result, Ok, Err}
use Rattle.std.proofs.Common.{refl, sym, ap, ◌∙◌, arith, append_assoc}
use Rattle.std.specs.Prelude.{◌==◌, ◌&&◌, flat_map, codes}
use Rattle.std.specs.List.{AllByRecursion}
use Rattle.spec_run.specs.declared.event.Event.{Event}
use Rattle.spec_run.specs.declared.event.Run.{Run}
use Rattle.spec_run.specs.declared.header.Header.{Header}
use Rattle.spec_text.specs.declared.run_fault.RunFault.{RunFault}
use Rattle.spec_text.specs.Lines.{lines_of, line_byte, onto_lines, begins_line_feed}
use Rattle.spec_text.specs.Lines.{LineByte, line_feed, dropped, kept as as_it_is, if_feed}
use Rattle.spec_text.specs.RunText.{newline, event_text, party_text, honest_text, secret_text, deposit_text, header_text, run_text}
use Rattle.spec_text.specs.RunFile.{Line, bad, over, empty, rule, says, no_header, header_line, kept, Headed, header_step, read_header}
use Rattle.spec_text.specs.RunFile.{event_of_line, with_event, counted, event_step, read_events, with_header, read_rest, read_run}
use Rattle.theory_text.proofs.Lines.LineBytes.{ends_line, lined, lines_again}
use Rattle.theory_text.proofs.Lines.Separated.{Lacks}
use Rattle.theory_text.proofs.Lines.ValidRuns.{an_event, a_run, run_eq, fault_run}
use Rattle.theory_auto.proofs.EventEnds.{EndsNowhere}

-- ---- a text of two parts, the first of which ends with a line feed

same_start : (xs ys zs : List ℕ) (b : ℕ) → begins_line_feed (xs ++ b ∷ ys) ≡ begins_line_feed (xs ++ b ∷ zs)
same_start [] ys zs b = refl
same_start (x ∷ xs) ys zs b = refl

onto_both : (said : LineByte) (b : ℕ) (xs ys : List (List ℕ)) → 1 ≤ length xs → onto_lines said b (xs ++ ys) ≡ onto_lines said b xs ++ ys
onto_both said b [] ys some = absurd (omega arith)
onto_both line_feed b (x ∷ xs) ys some = refl
onto_both dropped b (x ∷ xs) ys some = refl
onto_both as_it_is b (x ∷ xs) ys some = refl

some_onto : (said : LineByte) (b : ℕ) (xs : List (List ℕ)) → 1 ≤ length xs → 1 ≤ length (onto_lines said b xs)
some_onto said b [] some = absurd (omega arith)
some_onto line_feed b (x ∷ xs) some = omega arith
some_onto dropped b (x ∷ xs) some = omega arith
some_onto as_it_is b (x ∷ xs) some = omega arith

some_lines : (xs : List ℕ) → 1 ≤ length (lines_of (xs ++ newline))
some_lines [] = omega arith
some_lines (x ∷ xs) = some_onto (line_byte x (xs ++ newline)) x (lines_of (xs ++ newline)) (some_lines xs)

two_texts : (xs rest : List ℕ) → lines_of (xs ++ 10 ∷ rest) ≡ lines_of (xs ++ newline) ++ lines_of rest
two_texts [] rest = refl
two_texts (x ∷ xs) rest =
    let same : line_byte x (xs ++ 10 ∷ rest) ≡ line_byte x (xs ++ newline) =
    (λ i. line_byte_by x (same_start xs rest [] 10 i)) in
    (λ i. onto_lines (same i) x (two_texts xs rest i))
    ∙ onto_both (line_byte x (xs ++ newline)) x (lines_of (xs ++ newline)) (lines_of rest) (some_lines xs)
  where
    line_byte_by : ℕ → Bool → LineByte
    line_byte_by b feed = if_feed (b == 10) ((b == 13) && feed)

-- ---- the header

abbrev headed : Headed → Result Headed RunFault
headed x = Ok x

headed_is : (x y : Headed) → headed x ≡ headed y → x ≡ y
headed_is x y h = cc

abbrev with_lines : List (List ℕ) → Headed → Headed
with_lines more x = (x.0, x.1 ++ more, x.2)

step_more : (h : Header) (n : ℕ) (lines more : List (List ℕ)) (said : Line Header) (later other : Result Headed RunFault) (x : Headed)
    → (later ≡ headed x → other ≡ headed (with_lines more x)) → header_step h n lines said later ≡ headed x
    → header_step h n (lines ++ more) said other ≡ headed (with_lines more x)
step_more h n lines more bad later other x f e = cc
step_more h n lines more (over limit) later other x f e = cc
step_more h n lines more empty later other x f e = f e
step_more h n lines more rule later other x f e = ap (λ (y : Headed). headed (with_lines more y)) (headed_is (h, lines, n + 1) x e)
step_more h n lines more (says k) later other x f e = f e

header_more : (h : Header) (n : ℕ) (lines more : List (List ℕ)) (x : Headed) → read_header h n lines ≡ headed x
    → read_header h n (lines ++ more) ≡ headed (with_lines more x)
header_more h n [] more x e = cc
header_more h n (line ∷ lines) more x e =
    step_more h n lines more (header_line h line) _ (read_header (kept h (header_line h line)) (n + 1) (lines ++ more)) x
    (header_more (kept h (header_line h line)) (n + 1) lines more x) e

-- ---- lines that spell no event

abbrev events_read : List Event → Result (List Event) RunFault
events_read es = Ok es

some_event : (e : Event) (later : Result (List Event) RunFault) → with_event e later ≡ events_read [] → ⊥
some_event e (Ok es) h = cc
some_event e (Err fault) h = cc

-- what is read from some line on
record ReadFrom (parties : List (List ℕ)) (n : ℕ) (lines more : List (List ℕ)) : Type 0 where
  number : ℕ
  read : read_events parties 0 n lines ≡ read_events parties 0 number more

idle_step : (parties : List (List ℕ)) (n : ℕ) (line : List ℕ) (lines more : List (List ℕ)) (said : Line Event)
    → event_of_line parties 0 line ≡ said
    → event_step n said (read_events parties (counted 0 said) (n + 1) lines) ≡ events_read []
    → (read_events parties 0 (n + 1) lines ≡ events_read [] → ReadFrom parties (n + 1) (lines ++ more) more)
    → ReadFrom parties n (line ∷ (lines ++ more)) more
idle_step parties n line lines more bad is e f = cc
idle_step parties n line lines more (over limit) is e f = cc
idle_step parties n line lines more empty is e f =
    let r = f e in
    record {
      number = r.number;
      read = ap (λ (said : Line Event). event_step n said (read_events parties (counted 0 said) (n + 1) (lines ++ more))) is ∙ r.read;
    }
idle_step parties n line lines more rule is e f = cc
idle_step parties n line lines more (says event) is e f = absurd (some_event event _ e)

idle_lines : (parties : List (List ℕ)) (n : ℕ) (lines more : List (List ℕ)) → read_events parties 0 n lines ≡ events_read []
    → ReadFrom parties n (lines ++ more) more
idle_lines parties n [] more e = record { number = n; read = refl }
idle_lines parties n (line ∷ lines) more e =
    idle_step parties n line lines more (event_of_line parties 0 line) refl e (idle_lines parties (n + 1) lines more)

-- ---- events by their canonical lines

-- the line says the event behind so many, and ends nowhere within
pub record IsWritten (parties : List (List ℕ)) (count : ℕ) (e : Event) : Type 0 where
  pub said : event_of_line parties count (event_text e) ≡ an_event e
  pub ends : EndsNowhere (event_text e)

abbrev pub AreWritten : List (List ℕ) → ℕ → List Event → Type 0
AreWritten parties count [] = Unit {0}
AreWritten parties count (e ∷ es) = IsWritten parties count e × AreWritten parties (count + 1) es

written_read : (parties : List (List ℕ)) (count n : ℕ) (es : List Event) → AreWritten parties count es
    → read_events parties count n (map event_text es) ≡ events_read es
written_read parties count n [] h = refl
written_read parties count n (e ∷ es) h =
    let later = λ (said : Line Event). read_events parties (counted count said) (n + 1) (map event_text es) in
    ap (λ (said : Line Event). event_step n said (later said)) h.0.said
    ∙ ap (with_event e) (written_read parties (count + 1) (n + 1) es h.1)

written_end : (parties : List (List ℕ)) (count : ℕ) (es : List Event) → AreWritten parties count es
    → AllByRecursion (Lacks ends_line) (map event_text es)
written_end parties count [] h = tt
written_end parties count (e ∷ es) h = (h.0.ends, written_end parties (count + 1) es h.1)

pub events_lined : (es : List Event) → flat_map (λ e. event_text e ++ newline) es ≡ lined (map event_text es)
events_lined [] = refl
events_lined (e ∷ es) = ap (λ (xs : List ℕ). (event_text e ++ newline) ++ xs) (events_lined es)

-- ---- both

abbrev prefix_text : Header → List ℕ
prefix_text h =
    flat_map party_text h.parties
    ++ (flat_map honest_text h.honest ++ (flat_map secret_text h.secrets ++ (flat_map deposit_text h.deposits ++ codes "--")))

five_parts : (a b c d e f : List ℕ) → a ++ (b ++ (c ++ (d ++ (e ++ f)))) ≡ (a ++ (b ++ (c ++ (d ++ e)))) ++ f
five_parts a b c d e f = simp append_assoc

prefix_is : (h : Header) → header_text h ≡ prefix_text h ++ newline
prefix_is h =
    five_parts (flat_map party_text h.parties) (flat_map honest_text h.honest) (flat_map secret_text h.secrets)
    (flat_map deposit_text h.deposits) (codes "--") newline

run_lines : (h : Header) (es : List Event) (parties : List (List ℕ)) → AreWritten parties 0 es
    → lines_of (run_text (record { header = h; events = es })) ≡ lines_of (header_text h) ++ map event_text es
run_lines h es parties written =
    let rest = flat_map (λ e. event_text e ++ newline) es in
    let lines = map event_text es in
    let whole : header_text h ++ rest ≡ prefix_text h ++ 10 ∷ rest =
    ap (λ (xs : List ℕ). xs ++ rest) (prefix_is h) ∙ append_assoc (prefix_text h) newline rest in
    let events : lines_of rest ≡ lines = ap lines_of (events_lined es) ∙ lines_again lines (written_end parties 0 es written) in
    ap lines_of whole
    ∙ (two_texts (prefix_text h) rest ∙ (λ i. lines_of (sym (prefix_is h) i) ++ events i))

-- the header was read, and nothing behind it
record HeaderAlone (h : Header) (lines : List (List ℕ)) : Type 0 where
  rest : List (List ℕ)
  number : ℕ
  read : read_header no_header 1 lines ≡ headed (h, rest, number)
  idle : read_events h.parties 0 number rest ≡ events_read []

abbrev pub alone : Header → Run
alone h = record { header = h; events = [] }

events_none : (g h : Header) (read : Result (List Event) RunFault) → with_header g read ≡ a_run (alone h)
    → (g ≡ h) × (read ≡ events_read [])
events_none g h (Err fault) e = absurd (fault_run fault (alone h) e)
events_none g h (Ok es) e =
    let same = run_eq (record { header = g; events = es }) (alone h) e in
    (ap (λ (r : Run). r.header) same, ap (λ (r : Run). events_read r.events) same)

header_alone : (h : Header) (lines : List (List ℕ)) (read : Result Headed RunFault) → read_header no_header 1 lines ≡ read
    → read_rest read ≡ a_run (alone h) → HeaderAlone h lines
header_alone h lines (Err fault) is e = absurd (fault_run fault (alone h) e)
header_alone h lines (Ok x) is e =
    let p = events_none (x.0) h (read_events (x.0.parties) 0 (x.2) (x.1)) e in
    record {
      rest = x.1;
      number = x.2;
      read = is ∙ ap (λ (g : Header). headed (g, x.1, x.2)) p.0;
      idle = ap (λ (g : Header). read_events g.parties 0 (x.2) (x.1)) (sym p.0) ∙ p.1;
    }

pub run_reread : (h : Header) (es : List Event) → read_run (header_text h) ≡ a_run (alone h) → AreWritten h.parties 0 es
    → read_run (run_text (record { header = h; events = es })) ≡ a_run (record { header = h; events = es })
run_reread h es again written =
    let prefix = lines_of (header_text h) in
    let lines = map event_text es in
    let a = header_alone h prefix (read_header no_header 1 prefix) refl again in
    let header = header_more no_header 1 prefix lines (h, a.rest, a.number) a.read in
    let idle = idle_lines h.parties a.number a.rest lines a.idle in
    let events = idle.read ∙ written_read h.parties 0 idle.number es written in
    ap (λ (ls : List (List ℕ)). read_rest (read_header no_header 1 ls)) (run_lines h es h.parties written)
    ∙ (ap read_rest header ∙ ap (with_header h) events)
