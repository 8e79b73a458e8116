-- The canonical lines of a header that some file has are read as that header.
use Rattle.std.proofs.Common.{◌≡◌, ℕ, ◌+◌, ◌<◌, ◌≤◌, ◌^◌, Bool, true, false, List, [], ◌∷◌, ◌++◌, length, map, Ok, Err, refl, sym, ap, subst, ◌∙◌, arith, append_assoc}
use Rattle.std.specs.Prelude.{if◌then◌else◌, Result, flat_map, codes}
use Rattle.std.specs.Fmt.{decimal}
use Rattle.std.specs.List.{AllByRecursion}
use Rattle.std.proofs.lemmas.Bool.Decides.{nat_tests}
use Rattle.std.proofs.lemmas.Fmt.{length-decimal-le}
use Rattle.std.proofs.lemmas.List.{append-nil, length-append}
use Rattle.spec_data.specs.Lists.{is_among}
use Rattle.spec_data.specs.Digits.{hex_text}
use Rattle.spec_terms.specs.Readable.{is_name}
use Rattle.spec_run.specs.declared.event.Event.{Event}
use Rattle.spec_run.specs.declared.event.Run.{Run}
use Rattle.spec_run.specs.declared.header.Header.{Header}
use Rattle.spec_run.specs.declared.header.HeldSecret.{HeldSecret}
use Rattle.spec_text.specs.declared.run_fault.RunLimit.{RunLimit}
use Rattle.spec_text.specs.declared.run_fault.RunLimit.TheVariants as limits
use Rattle.spec_text.specs.declared.run_fault.RunFault.{RunFault}
use Rattle.spec_text.specs.Limits.{most_line_bytes}
use Rattle.spec_text.specs.Lines.{words_of, lines_of}
use Rattle.spec_text.specs.RunText.{newline, party_text, honest_text, secret_text, deposit_text, header_text}
use Rattle.spec_text.specs.RunFile.{Line, over, says, spelled_within, is_long, no_header, secret_of, deposit_of, header_words, header_line, kept, Headed, header_step, read_header, read_events, with_header, read_rest, read_run}
use Rattle.spec_text.specs.Statements.{PrintedHeaderTheorem}
use Rattle.theory_text.proofs.ListFacts.{and_left, and_right}
use Rattle.theory_text.proofs.Lines.Decimals.{number_less}
use Rattle.theory_text.proofs.Lines.Separated.{Lacks, spaced, spaced_words}
use Rattle.theory_text.proofs.Lines.LineBytes.{ends_line, lined, lines_again, lined_map, spaced_ends, LineWord, name_line, name_short, decimal_line, hex_line, line_is, line_ends}
use Rattle.theory_text.proofs.Lines.ReadHeaders.{AllNew, NewParty, NewHonest, secret_words, NewSecret, NewDeposit, IsRead, line_keeps, no_header_read}
use Rattle.theory_text.proofs.Lines.ValidHeaders.{header_keeps}
use Rattle.theory_text.proofs.Lines.ValidRuns.{a_run, run_eq, fault_run}

-- ---- the lines

abbrev party_words : List ℕ → List (List ℕ)
party_words a = codes "party" ∷ a ∷ []

abbrev honest_words : List ℕ → List (List ℕ)
honest_words a = codes "honest" ∷ a ∷ []

abbrev deposit_words : List ℕ × ℕ → List (List ℕ)
deposit_words d = codes "deposit" ∷ d.0 ∷ decimal d.1 ∷ []

-- the lines of deposits, and the line that ends the header
abbrev deposit_lines : Header → List (List ℕ)
deposit_lines h = map (λ d. spaced (deposit_words d)) h.deposits ++ codes "--" ∷ []

abbrev secret_lines : Header → List (List ℕ)
secret_lines h = map (λ s. spaced (secret_words s)) h.secrets ++ deposit_lines h

abbrev honest_lines : Header → List (List ℕ)
honest_lines h = map (λ a. spaced (honest_words a)) h.honest ++ secret_lines h

abbrev header_lines : Header → List (List ℕ)
header_lines h = map (λ a. spaced (party_words a)) h.parties ++ honest_lines h

one_last : (a rest : List ℕ) → a ++ rest ≡ (a ++ []) ++ rest
one_last a rest = ap (λ (xs : List ℕ). xs ++ rest) (sym (append-nil a))

two_last : (a b rest : List ℕ) → a ++ 32 ∷ (b ++ rest) ≡ (a ++ 32 ∷ (b ++ [])) ++ rest
two_last a b rest = simp append_assoc

three_last : (a b c rest : List ℕ) → a ++ 32 ∷ (b ++ 32 ∷ (c ++ rest)) ≡ (a ++ 32 ∷ (b ++ 32 ∷ (c ++ []))) ++ rest
three_last a b c rest = simp append_assoc

header_lined : (h : Header) → header_text h ≡ lined (header_lines h)
header_lined h =
    let deposits : flat_map deposit_text h.deposits ++ lined (codes "--" ∷ []) ≡ lined (deposit_lines h) =
    lined_map deposit_text (λ d. spaced (deposit_words d))
    (λ d. ap (λ (xs : List ℕ). codes "deposit " ++ xs) (two_last d.0 (decimal d.1) newline)) h.deposits (codes "--" ∷ []) in
    let secrets : flat_map secret_text h.secrets ++ lined (deposit_lines h) ≡ lined (secret_lines h) =
    lined_map secret_text (λ s. spaced (secret_words s))
    (λ s. ap (λ (xs : List ℕ). codes "secret " ++ xs) (three_last s.party s.name (hex_text s.bytes) newline)) h.secrets (deposit_lines h) in
    let honest : flat_map honest_text h.honest ++ lined (secret_lines h) ≡ lined (honest_lines h) =
    lined_map honest_text (λ a. spaced (honest_words a)) (λ a. ap (λ (xs : List ℕ). codes "honest " ++ xs) (one_last a newline)) h.honest (secret_lines h) in
    let parties : flat_map party_text h.parties ++ lined (honest_lines h) ≡ lined (header_lines h) =
    lined_map party_text (λ a. spaced (party_words a)) (λ a. ap (λ (xs : List ℕ). codes "party " ++ xs) (one_last a newline)) h.parties (honest_lines h) in
    ap (λ (xs : List ℕ). flat_map party_text h.parties ++ (flat_map honest_text h.honest ++ (flat_map secret_text h.secrets ++ xs))) deposits
    ∙ (ap (λ (xs : List ℕ). flat_map party_text h.parties ++ (flat_map honest_text h.honest ++ xs)) secrets
    ∙ (ap (λ (xs : List ℕ). flat_map party_text h.parties ++ xs) honest ∙ parties))

-- ---- each line alone

-- a line of words, none of which ends a line, of at most so many bytes
record LineOf (words : List (List ℕ)) : Type 0 where
  all : AllByRecursion LineWord words
  short : length (spaced words) ≤ most_line_bytes

party_known : LineWord (codes "party")
party_known =
    record { is = record { some = omega arith; lacks = (refl, (refl, (refl, (refl, (refl, tt))))) }; ends = (refl, (refl, (refl, (refl, (refl, tt))))) }

honest_known : LineWord (codes "honest")
honest_known = record {
  is = record {
    some = omega
        arith;
    lacks = (refl, (refl, (refl, (refl, (refl, (refl, tt))))));
  };
  ends = (refl, (refl, (refl, (refl, (refl, (refl, tt))))));
}

secret_known : LineWord (codes "secret")
secret_known = record {
  is = record {
    some = omega
        arith;
    lacks = (refl, (refl, (refl, (refl, (refl, (refl, tt))))));
  };
  ends = (refl, (refl, (refl, (refl, (refl, (refl, tt))))));
}

deposit_known : LineWord (codes "deposit")
deposit_known = record {
  is = record {
    some = omega
        arith;
    lacks = (refl, (refl, (refl, (refl, (refl, (refl, (refl, tt)))))));
  };
  ends = (refl, (refl, (refl, (refl, (refl, (refl, (refl, tt)))))));
}

party_line_of : (a : List ℕ) → is_name a ≡ true → LineOf (party_words a)
party_line_of a h = record { all = (party_known, (name_line a h, tt)); short = omega (arith, length-append a [], name_short a h) }

honest_line_of : (a : List ℕ) → is_name a ≡ true → LineOf (honest_words a)
honest_line_of a h = record { all = (honest_known, (name_line a h, tt)); short = omega (arith, length-append a [], name_short a h) }

deposit_line_of : (a : List ℕ) (v : ℕ) → is_name a ≡ true → v < 2 ^ 64 → LineOf (deposit_words (a, v))
deposit_line_of a v h less = record {
  all = (deposit_known, (name_line a h, (decimal_line v less, tt)));
  short = omega (
    arith,
    length-append a (32 ∷ (decimal v ++ [])),
    length-append (decimal v) [],
    name_short a h,
    length-decimal-le 20 v
        (omega arith) (omega (arith, less)) less,
  );
}

line_short : (line : List ℕ) → length line ≤ most_line_bytes → is_long line ≡ false
line_short line h = grind (arith, nat_tests)

short_line : (t : Bool) (said : Line Header) → t ≡ false → (if t then over limits.Line else said) ≡ said
short_line true said e = absurd cc
short_line false said e = refl

-- it says what its words say
line_words : (h : Header) (words : List (List ℕ)) → LineOf words → header_line h (spaced words) ≡ header_words h words
line_words h words l = short_line (is_long (spaced words)) (header_words h (words_of (spaced words))) (line_short (spaced words) l.short)
    ∙ ap (header_words h) (spaced_words words (line_is words l.all))

says_within : (ok room : Bool) (limit : RunLimit) (h : Header) → ok ≡ true → room ≡ true → spelled_within ok room limit h ≡ says h
says_within ok room limit h p q = rw (p, q) refl

-- ---- many lines

-- the lines of these elements take one header to another
record Reached (h k : Header) (n : ℕ) (lines rest : List (List ℕ)) : Type 0 where
  number : ℕ
  read : read_header h n lines ≡ read_header k number rest

one_read : (h k : Header) (n : ℕ) (line : List ℕ) (lines : List (List ℕ)) → header_line h line ≡ says k → read_header h n (line ∷ lines)
    ≡ read_header k (n + 1) lines
one_read h k n line lines e = ap (λ (said : Line Header). header_step h n lines said (read_header (kept h said) (n + 1) lines)) e

many_read : {X : Type 0} (into : List X → Header) (line : X → List ℕ) (P : List X → X → Type 0)
    → ((done : List X) (x : X) → P done x → header_line (into done) (line x) ≡ says (into (done ++ x ∷ [])))
    → (done todo : List X) → AllNew P done todo → (n : ℕ) (rest : List (List ℕ)) → Reached (into done) (into (done ++ todo)) n (map line todo ++ rest) rest
many_read into line P f done [] h n rest = record { number = n; read = ap (λ (xs : List _). read_header (into xs) n rest) (sym (append-nil done)) }
many_read into line P f done (x ∷ xs) h n rest =
    let one = one_read (into done) (into (done ++ x ∷ [])) n (line x) (map line xs ++ rest) (f done x h.0) in
    let r = many_read into line P f (done ++ x ∷ []) xs h.1 (n + 1) rest in
    record { number = r.number; read = one ∙ (r.read ∙ ap (λ (ys : List _). read_header (into ys) r.number rest) (append_assoc done (x ∷ []) xs)) }

-- ---- the parts of a header in turn

party_says : (done : List (List ℕ)) (a : List ℕ) → NewParty done a
    → header_line (record no_header { parties = done }) (spaced (party_words a)) ≡ says (record no_header { parties = done ++ a ∷ [] })
party_says done a p = line_words _ (party_words a) (party_line_of a (and_left _ _ p.spelled)) ∙ says_within _ _ limits.Parties _ p.spelled p.room

abbrev with_honest : Header → List (List ℕ) → Header
with_honest h honest = record no_header { parties = h.parties; honest = honest }

honest_says : (h : Header) (done : List (List ℕ)) (a : List ℕ) → NewHonest h.parties done a
    → header_line (with_honest h done) (spaced (honest_words a)) ≡ says (with_honest h (done ++ a ∷ []))
honest_says h done a p = line_words (with_honest h done) (honest_words a) (honest_line_of a p.named) ∙ says_within _ _ limits.Parties _ p.spelled refl

abbrev with_secrets : Header → List HeldSecret → Header
with_secrets h secrets = record no_header { parties = h.parties; honest = h.honest; secrets = secrets }

secret_line_of : (honest : List (List ℕ)) (done : List HeldSecret) (s : HeldSecret) → NewSecret honest done s → LineOf (secret_words s)
secret_line_of honest done s p = record {
  all = (
    secret_known,
    (
      name_line s.party p.named,
      (
        name_line s.name
            (and_right (is_among s.party honest) _ (and_left _ _ p.spelled)),
        (hex_line s.bytes p.bytes' p.read, tt),
      ),
    ),
  );
  short = p.short;
}

secret_says : (h : Header) (done : List HeldSecret) (s : HeldSecret) → NewSecret h.honest done s
    → header_line (with_secrets h done) (spaced (secret_words s)) ≡ says (with_secrets h (done ++ s ∷ []))
secret_says h done s p =
    line_words (with_secrets h done) (secret_words s) (secret_line_of h.honest done s p)
    ∙ (ap (secret_of (with_secrets h done) s.party s.name) p.read ∙ says_within _ _ limits.Secrets _ p.spelled p.room)

abbrev with_deposits : Header → List (List ℕ × ℕ) → Header
with_deposits h deposits = record { parties = h.parties; honest = h.honest; secrets = h.secrets; deposits = deposits }

deposit_says : (h : Header) (done : List (List ℕ × ℕ)) (d : List ℕ × ℕ) → NewDeposit h.parties done d
    → header_line (with_deposits h done) (spaced (deposit_words d)) ≡ says (with_deposits h (done ++ d ∷ []))
deposit_says h done d p =
    line_words (with_deposits h done) (deposit_words d) (deposit_line_of d.0 d.1 p.named (number_less (2 ^ 64) (decimal d.1) d.1 p.read))
    ∙ (ap (deposit_of (with_deposits h done) d.0) p.read ∙ says_within _ _ limits.Deposits _ p.spelled p.room)

-- the line that ends the header
record Ended (h : Header) (read : Result Headed RunFault) : Type 0 where
  number : ℕ
  is : read ≡ Ok (h, [], number)

all_read : (h : Header) → IsRead h → Ended h (read_header no_header 1 (header_lines h))
all_read h is =
    let a = many_read (λ ps. record no_header { parties = ps }) (λ x. spaced (party_words x)) NewParty party_says [] h.parties is.parties' 1 (honest_lines h) in
    let b = many_read (with_honest h) (λ x. spaced (honest_words x)) (NewHonest h.parties) (honest_says h) [] h.honest is.honest' a.number (secret_lines h) in
    let c = many_read (with_secrets h) (λ s. spaced (secret_words s))
    (NewSecret h.honest) (secret_says h) [] h.secrets is.secrets' b.number (deposit_lines h) in
    let d = many_read (with_deposits h) (λ x. spaced (deposit_words x))
    (NewDeposit h.parties) (deposit_says h) [] h.deposits is.deposits' c.number (codes "--" ∷ []) in
    record { number = d.number + 1; is = a.read ∙ (b.read ∙ (c.read ∙ d.read)) }

-- ---- no byte of a line ends it

lines_end : {X : Type 0} (words : X → List (List ℕ)) (P : List X → X → Type 0) → ((done : List X) (x : X) → P done x → LineOf (words x))
    → (done xs : List X) (rest : List (List ℕ)) → AllNew P done xs → AllByRecursion (Lacks ends_line) rest
    → AllByRecursion (Lacks ends_line) (map (λ x. spaced (words x)) xs ++ rest)
lines_end words P f done [] rest h r = r
lines_end words P f done (x ∷ xs) rest h r =
    (spaced_ends (words x) (line_ends (words x) (f done x h.0).all), lines_end words P f (done ++ x ∷ []) xs rest h.1 r)

header_lines_end : (h : Header) → IsRead h → AllByRecursion (Lacks ends_line) (header_lines h)
header_lines_end h is =
    lines_end party_words NewParty (λ done a p. party_line_of a (and_left _ _ p.spelled)) [] h.parties (honest_lines h) is.parties'
    (lines_end honest_words (NewHonest h.parties) (λ done a p. honest_line_of a p.named) [] h.honest (secret_lines h) is.honest'
    (lines_end secret_words (NewSecret h.honest) (secret_line_of h.honest) [] h.secrets (deposit_lines h) is.secrets'
    (lines_end deposit_words (NewDeposit h.parties) (λ done d p. deposit_line_of d.0 d.1 p.named (number_less (2 ^ 64) (decimal d.1) d.1 p.read))
    [] h.deposits (codes "--" ∷ []) is.deposits' ((refl, (refl, tt)), tt))))

-- ---- the header of a run that was read

header_is : (header : Header) (events : Result (List Event) RunFault) (run : Run) → with_header header events ≡ a_run run → header ≡ run.header
header_is header (Ok es) run h = ap (λ (r : Run). r.header) (run_eq (record { header = header; events = es }) run h)
header_is header (Err fault) run h = absurd (fault_run fault run h)

rest_is : (headed : Result Headed RunFault) (run : Run) → ((x : Headed) → headed ≡ Ok x → IsRead x.0) → read_rest headed ≡ a_run run → IsRead run.header
rest_is (Err fault) run f h = absurd (fault_run fault run h)
rest_is (Ok x) run f h = subst IsRead (header_is x.0 (read_events x.0.parties 0 x.2 x.1) run h) (f x refl)

run_read : (text : List ℕ) (run : Run) → read_run text ≡ a_run run → IsRead run.header
run_read text run h = rest_is (read_header no_header 1 (lines_of text)) run
    (λ x e. header_keeps IsRead (λ g k line. line_keeps g k line) no_header 1 (lines_of text) x no_header_read e) h

pub printed_header : PrintedHeaderTheorem
printed_header text run h =
    let is = run_read text run h in
    let lines : lines_of (header_text run.header) ≡ header_lines run.header =
    ap lines_of (header_lined run.header) ∙ lines_again (header_lines run.header) (header_lines_end run.header is) in
    let read = all_read run.header is in
    ap (λ (ls : List (List ℕ)). read_rest (read_header no_header 1 ls)) lines ∙ ap read_rest read.is
