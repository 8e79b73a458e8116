-- The canonical lines of a run are no longer than the text that it was read from, with a line feed at its end.
use Rattle.std.proofs.Common.{◌≡◌, ℕ, suc, ◌+◌, ◌≤◌, Bool, true, false, List, [], ◌∷◌, ◌++◌, length, Option, Some, None, Result, Ok}
use Rattle.std.proofs.Common.{refl, sym, ap, subst, ◌∙◌, arith, length-append}
use Rattle.std.specs.Prelude.{if◌then◌else◌, nat_lt, flat_map, codes}
use Rattle.std.specs.Fmt.{decimal}
use Rattle.std.specs.List.{AllZip}
use Rattle.std.specs.Str.{bytes_eq}
use Rattle.spec_data.specs.Digits.{read_hex, hex_text}
use Rattle.spec_run.specs.declared.event.Event.{Event}
use Rattle.spec_run.specs.declared.header.Header.{Header}
use Rattle.spec_text.specs.declared.run_fault.RunLimit.{RunLimit}
use Rattle.spec_text.specs.declared.run_fault.RunLimit.TheVariants as limits
use Rattle.spec_text.specs.declared.run_fault.RunFault.{RunFault}
use Rattle.spec_text.specs.Limits.{most_events}
use Rattle.spec_text.specs.Lines.{lines_of, words_of, onto_lines, onto_first, line_byte, LineByte, line_feed, dropped, kept as as_it_is}
use Rattle.spec_text.specs.Words.{amount}
use Rattle.spec_text.specs.EventLines.{event_of}
use Rattle.spec_text.specs.RunText.{newline, event_text, party_text, honest_text, secret_text, deposit_text, header_text}
use Rattle.spec_text.specs.RunFile.{Line, bad, over, empty, rule, says, spelled_within, is_long, party_line, honest_line}
use Rattle.spec_text.specs.RunFile.{held_secret, secret_of, secret_line, deposit_of, deposit_line, rule_line, header_words, header_line}
use Rattle.spec_text.specs.RunFile.{kept, Headed, header_step, read_header, event_within, event_words, event_of_line}
use Rattle.theory_text.proofs.Options.{some}
use Rattle.theory_text.proofs.Lines.Words.{total, total-words}
use Rattle.theory_text.proofs.Lines.Separated.{spaced, spaced_length}
use Rattle.theory_text.proofs.Lines.Digests.{Twin}
use Rattle.theory_text.proofs.Lines.Events.{event_again}
use Rattle.theory_text.proofs.Lines.HexBack.{read_hex_back}
use Rattle.theory_text.proofs.Lines.PrintedWords.{same_bytes, amount_word}
use Rattle.theory_text.proofs.Lines.ValidRuns.{an_event, event_eq, over_says, bad_says, empty_says, not_long}

-- ---- an event

pub twins_total : (words again : List (List ℕ)) → AllZip Twin words again → total again ≡ total words
twins_total [] [] h = refl
twins_total [] (v ∷ again) h = absurd h
twins_total (w ∷ words) [] h = absurd h
twins_total (w ∷ words) (v ∷ again) h = omega (arith, twins_total words again h.1, h.0.size)

pub twins_count : (words again : List (List ℕ)) → AllZip Twin words again → length again ≡ length words
twins_count [] [] h = refl
twins_count [] (v ∷ again) h = absurd h
twins_count (w ∷ words) [] h = absurd h
twins_count (w ∷ words) (v ∷ again) h = omega (arith, twins_count words again h.1)

room_is : (t : Bool) (d e : Event) → spelled_within true t limits.Events d ≡ an_event e → d ≡ e
room_is true d e h = event_eq d e h
room_is false d e h = absurd (over_says e h)

within_is : (count : ℕ) (o : Option Event) (e : Event) → event_within count o ≡ an_event e → o ≡ some e
within_is count None e h = absurd (bad_says e h)
within_is count (Some d) e h = ap some (room_is (nat_lt count most_events) d e h)

-- the event is spelled by words, of which there is one at least
pub record IsOfWords (parties words : List (List ℕ)) (e : Event) : Type 0 where
  pub read : event_of parties words ≡ some e
  pub any : 1 ≤ length words

words_say : (parties : List (List ℕ)) (count : ℕ) (words : List (List ℕ)) (e : Event) → event_words parties count words ≡ an_event e
    → IsOfWords parties words e
words_say parties count [] e h = absurd (empty_says e h)
words_say parties count (w ∷ ws) e h = record { read = within_is count (event_of parties (w ∷ ws)) e h; any = omega arith }

pub line_of_words : (parties : List (List ℕ)) (count : ℕ) (line : List ℕ) (e : Event) → event_of_line parties count line ≡ an_event e
    → IsOfWords parties (words_of line) e
line_of_words parties count line e h =
    words_say parties count (words_of line) e (not_long (is_long line) (event_words parties count (words_of line)) e h).is

pub event_shorter : (parties : List (List ℕ)) (count : ℕ) (line : List ℕ) (e : Event) → event_of_line parties count line ≡ an_event e
    → length (event_text e) ≤ length line
event_shorter parties count line e h =
    let is = line_of_words parties count line e h in
    let c = event_again parties (words_of line) e is.read in
    let many = twins_count (words_of line) c.again c.twins in
    let fits = spaced_length line c.again (omega (arith, many, is.any)) (twins_total (words_of line) c.again c.twins) many in
    omega (arith, ap (length {A = ℕ}) c.text, fits)

-- ---- a header

-- the lines of a list with one more
one_more : {X : Type 0} (text : X → List ℕ) (xs : List X) (x : X)
    → length (flat_map text (xs ++ x ∷ [])) ≡ length (flat_map text xs) + length (text x)
one_more text [] x = omega (arith, length-append (text x) [])
one_more text (y ∷ xs) x =
    omega (
      arith,
      length-append (text y) (flat_map text (xs ++ x ∷ [])),
      length-append (text y) (flat_map text xs),
      one_more text xs x,
    )

header_length : (h : Header)
    → length (header_text h)
    ≡ length (flat_map party_text h.parties) + length (flat_map honest_text h.honest) + length (flat_map secret_text h.secrets)
    + length (flat_map deposit_text h.deposits) + 3
header_length h =
    let last = codes "--" ++ newline in
    let deposits = flat_map deposit_text h.deposits ++ last in
    let secrets = flat_map secret_text h.secrets ++ deposits in
    let honest = flat_map honest_text h.honest ++ secrets in
    omega (
      arith,
      length-append (flat_map party_text h.parties) honest,
      length-append (flat_map honest_text h.honest) secrets,
      length-append (flat_map secret_text h.secrets) deposits,
      length-append (flat_map deposit_text h.deposits) last,
    )

-- the words of a canonical line, which is no longer than the line
at_most : (line : List ℕ) (words again : List (List ℕ)) → words_of line ≡ words → 1 ≤ length again → total again ≡ total words
    → length again ≡ length words → length (spaced again) ≤ length line
at_most line words again is any size count =
    spaced_length line again any (size ∙ sym (ap total is)) (count ∙ sym (ap (length {A = List ℕ}) is))

abbrev Adds : List ℕ → Header → Header → Type 0
Adds line h k = length (header_text k) ≤ length (header_text h) + (length line + 1)

party_adds : (h : Header) (a line : List ℕ) → words_of line ≡ codes "party" ∷ a ∷ []
    → Adds line h (record h { parties = h.parties ++ a ∷ [] })
party_adds h a line is =
    let words = codes "party" ∷ a ∷ [] in
    omega (
      arith,
      header_length h,
      header_length (record h { parties = h.parties ++ a ∷ [] }),
      one_more party_text h.parties a,
      length-append a newline,
      length-append a [],
      at_most line words words is (omega arith) refl refl,
    )

honest_adds : (h : Header) (a line : List ℕ) → words_of line ≡ codes "honest" ∷ a ∷ []
    → Adds line h (record h { honest = h.honest ++ a ∷ [] })
honest_adds h a line is =
    let words = codes "honest" ∷ a ∷ [] in
    omega (
      arith,
      header_length h,
      header_length (record h { honest = h.honest ++ a ∷ [] }),
      one_more honest_text h.honest a,
      length-append a newline,
      length-append a [],
      at_most line words words is (omega arith) refl refl,
    )

secret_adds : (h : Header) (a s word bytes line : List ℕ) → words_of line ≡ codes "secret" ∷ a ∷ s ∷ word ∷ [] → read_hex word ≡ some bytes
    → Adds line h (record h { secrets = h.secrets ++ held_secret a s bytes ∷ [] })
secret_adds h a s word bytes line is read =
    let hex = hex_text bytes in
    let words = codes "secret" ∷ a ∷ s ∷ word ∷ [] in
    let again = codes "secret" ∷ a ∷ s ∷ hex ∷ [] in
    let size = (read_hex_back word bytes read).size in
    omega (
      arith,
      header_length h,
      header_length (record h { secrets = h.secrets ++ held_secret a s bytes ∷ [] }),
      one_more secret_text h.secrets (held_secret a s bytes),
      length-append a (32 ∷ (s ++ 32 ∷ (hex ++ newline))),
      length-append s (32 ∷ (hex ++ newline)),
      length-append hex newline,
      length-append a (32 ∷ (s ++ 32 ∷ (hex ++ []))),
      length-append s (32 ∷ (hex ++ [])),
      length-append hex [],
      at_most line words again is (omega arith) (omega (arith, size)) refl,
    )

deposit_adds : (h : Header) (a word line : List ℕ) (v : ℕ) → words_of line ≡ codes "deposit" ∷ a ∷ word ∷ [] → amount word ≡ some v
    → Adds line h (record h { deposits = h.deposits ++ (a, v) ∷ [] })
deposit_adds h a word line v is read =
    let words = codes "deposit" ∷ a ∷ word ∷ [] in
    let again = codes "deposit" ∷ a ∷ decimal v ∷ [] in
    let size = ap (length {A = ℕ}) (amount_word word v read) in
    omega (
      arith,
      header_length h,
      header_length (record h { deposits = h.deposits ++ (a, v) ∷ [] }),
      one_more deposit_text h.deposits (a, v),
      length-append a (32 ∷ (decimal v ++ newline)),
      length-append (decimal v) newline,
      length-append a (32 ∷ (decimal v ++ [])),
      length-append (decimal v) [],
      at_most line words again is (omega arith) (omega (arith, size)) refl,
    )

-- ---- what a line of the header comes to

-- a header with the line, no longer than the text with it; and the last line has a byte for each of its dashes
abbrev Fair : List ℕ → Header → Line Header → Type 0
Fair line h (says k) = Adds line h k
Fair line h rule = 2 ≤ length line
Fair line h bad = Unit {0}
Fair line h (over limit) = Unit {0}
Fair line h empty = Unit {0}

fair_within : (line : List ℕ) (h k : Header) (ok room : Bool) (limit : RunLimit) → Adds line h k
    → Fair line h (spelled_within ok room limit k)
fair_within line h k true true limit f = f
fair_within line h k true false limit f = tt
fair_within line h k false room limit f = tt

party_fair : (h : Header) (line : List ℕ) (ws : List (List ℕ)) → words_of line ≡ codes "party" ∷ ws → Fair line h (party_line h ws)
party_fair h line [] is = tt
party_fair h line (a ∷ []) is = fair_within line h _ _ _ limits.Parties (party_adds h a line is)
party_fair h line (a ∷ b ∷ ws) is = tt

honest_fair : (h : Header) (line : List ℕ) (ws : List (List ℕ)) → words_of line ≡ codes "honest" ∷ ws → Fair line h (honest_line h ws)
honest_fair h line [] is = tt
honest_fair h line (a ∷ []) is = fair_within line h _ _ _ limits.Parties (honest_adds h a line is)
honest_fair h line (a ∷ b ∷ ws) is = tt

held_fair : (h : Header) (a s word line : List ℕ) (bytes : Option (List ℕ)) → read_hex word ≡ bytes
    → words_of line ≡ codes "secret" ∷ a ∷ s ∷ word ∷ [] → Fair line h (secret_of h a s bytes)
held_fair h a s word line None read is = tt
held_fair h a s word line (Some bytes) read is = fair_within line h _ _ _ limits.Secrets (secret_adds h a s word bytes line is read)

secret_fair : (h : Header) (line : List ℕ) (ws : List (List ℕ)) → words_of line ≡ codes "secret" ∷ ws → Fair line h (secret_line h ws)
secret_fair h line [] is = tt
secret_fair h line (a ∷ []) is = tt
secret_fair h line (a ∷ s ∷ []) is = tt
secret_fair h line (a ∷ s ∷ word ∷ []) is = held_fair h a s word line (read_hex word) refl is
secret_fair h line (a ∷ s ∷ word ∷ v ∷ ws) is = tt

paid_fair : (h : Header) (a word line : List ℕ) (v : Option ℕ) → amount word ≡ v → words_of line ≡ codes "deposit" ∷ a ∷ word ∷ []
    → Fair line h (deposit_of h a v)
paid_fair h a word line None read is = tt
paid_fair h a word line (Some v) read is = fair_within line h _ _ _ limits.Deposits (deposit_adds h a word line v is read)

deposit_fair : (h : Header) (line : List ℕ) (ws : List (List ℕ)) → words_of line ≡ codes "deposit" ∷ ws → Fair line h (deposit_line h ws)
deposit_fair h line [] is = tt
deposit_fair h line (a ∷ []) is = tt
deposit_fair h line (a ∷ word ∷ []) is = paid_fair h a word line (amount word) refl is
deposit_fair h line (a ∷ word ∷ v ∷ ws) is = tt

rule_fair : (h : Header) (line : List ℕ) (ws : List (List ℕ)) → words_of line ≡ codes "--" ∷ ws → Fair line h (rule_line ws)
rule_fair h line [] is = omega (arith, ap total is, total-words line)
rule_fair h line (w ∷ ws) is = tt

by_word : (line : List ℕ) (h : Header) (t : Bool) (x y : Line Header) → (t ≡ true → Fair line h x) → Fair line h y
    → Fair line h (if t then x else y)
by_word line h true x y f g = f refl
by_word line h false x y f g = g

words_fair : (h : Header) (line : List ℕ) (words : List (List ℕ)) → words_of line ≡ words → Fair line h (header_words h words)
words_fair h line [] is = tt
words_fair h line (w ∷ ws) is =
    let with = λ (name : List ℕ) (same : bytes_eq w name ≡ true). is ∙ ap (λ (x : List ℕ). x ∷ ws) (same_bytes w name same) in
    by_word line h (bytes_eq w (codes "party")) _ _ (λ same. party_fair h line ws (with (codes "party") same))
    (by_word line h (bytes_eq w (codes "honest")) _ _ (λ same. honest_fair h line ws (with (codes "honest") same))
    (by_word line h (bytes_eq w (codes "secret")) _ _ (λ same. secret_fair h line ws (with (codes "secret") same))
    (by_word line h (bytes_eq w (codes "deposit")) _ _ (λ same. deposit_fair h line ws (with (codes "deposit") same))
    (by_word line h (bytes_eq w (codes "--")) _ _ (λ same. rule_fair h line ws (with (codes "--") same)) tt))))

line_fair : (h : Header) (line : List ℕ) → Fair line h (header_line h line)
line_fair h line = by_word line h (is_long line) (over limits.Line) (header_words h (words_of line)) (λ long. tt)
    (words_fair h line (words_of line) refl)

-- ---- all lines

-- the bytes of these lines, each with its end
abbrev pub lines_size : List (List ℕ) → ℕ
lines_size [] = 0
lines_size (line ∷ lines) = (length line + 1) + lines_size lines

abbrev headed : Headed → Result Headed RunFault
headed x = Ok x

headed_is : (x y : Headed) → headed x ≡ headed y → x ≡ y
headed_is x y h = cc

-- the header's lines but its last, and those behind them, aren't longer than all of these
abbrev Within : Header → ℕ → Headed → Type 0
Within h size x = (length (header_text x.0) + lines_size x.1) + 3 ≤ length (header_text h) + size

step_within : (h : Header) (n : ℕ) (line : List ℕ) (lines : List (List ℕ)) (said : Line Header) (later : Result Headed RunFault)
    (x : Headed)
    → Fair line h said → (later ≡ headed x → Within (kept h said) (lines_size lines) x) → header_step h n lines said later ≡ headed x
    → Within h (lines_size (line ∷ lines)) x
step_within h n line lines bad later x fair f e = cc
step_within h n line lines (over limit) later x fair f e = cc
step_within h n line lines empty later x fair f e = let g = f e in omega (arith, g)
step_within h n line lines rule later x fair f e =
    let same = headed_is (h, lines, n + 1) x e in
    let one : Within h (lines_size (line ∷ lines)) (h, lines, n + 1) = omega (arith, fair) in
    subst (Within h (lines_size (line ∷ lines))) same one
step_within h n line lines (says k) later x fair f e = let g = f e in omega (arith, g, fair)

pub header_within : (h : Header) (n : ℕ) (lines : List (List ℕ)) (x : Headed) → read_header h n lines ≡ headed x
    → Within h (lines_size lines) x
header_within h n [] x e = cc
header_within h n (line ∷ lines) x e =
    step_within h n line lines (header_line h line) (read_header (kept h (header_line h line)) (n + 1) lines) x (line_fair h line)
    (header_within (kept h (header_line h line)) (n + 1) lines x) e

-- ---- the lines of a text

first_size : (b : ℕ) (lines : List (List ℕ)) (n : ℕ) → lines_size lines ≤ n + 1 → lines_size (onto_first b lines) ≤ suc n + 1
first_size b [] n h = omega arith
first_size b (line ∷ lines) n h = omega (arith, h)

onto_size : (said : LineByte) (b : ℕ) (lines : List (List ℕ)) (n : ℕ) → lines_size lines ≤ n + 1
    → lines_size (onto_lines said b lines) ≤ suc n + 1
onto_size line_feed b lines n h = omega (arith, h)
onto_size dropped b lines n h = omega (arith, h)
onto_size as_it_is b lines n h = first_size b lines n h

-- the last line may lack its end
pub text_size : (text : List ℕ) → lines_size (lines_of text) ≤ length text + 1
text_size [] = omega arith
text_size (b ∷ bytes) = onto_size (line_byte b bytes) b (lines_of bytes) (length bytes) (text_size bytes)
