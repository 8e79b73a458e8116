-- The events that rules have are read from their canonical lines, each of which is short.
use Rattle.std.proofs.Common.{◌≡◌, ℕ, suc, ◌+◌, ◌*◌, ◌<◌, ◌≤◌, ◌^◌, Bool, true, List, [], ◌∷◌, ◌++◌, length, Option, Some, None}
use Rattle.std.proofs.Common.{false, refl, sym, ap, subst, ◌∙◌, arith}
use Rattle.std.specs.Prelude.{codes, is_some, if◌then◌else◌, option_and_then}
use Rattle.std.specs.Fmt.{decimal, digits}
use Rattle.std.specs.List.{AllByRecursion}
use Rattle.std.proofs.lemmas.Bool.{lt-ltb}
use Rattle.std.proofs.lemmas.Fmt.{length-decimal-le}
use Rattle.std.proofs.lemmas.List.{append-nil, length-append}
use Rattle.spec_data.specs.Lists.{is_among}
use Rattle.spec_terms.specs.Advert.{Advert}
use Rattle.spec_terms.specs.Readable.{is_name}
use Rattle.spec_terms.specs.Paths.{Subterm, position, as_branch, subterm_from}
use Rattle.spec_terms.specs.declared.path.PathStep.{PathStep}
use Rattle.spec_terms.specs.declared.path.PathStep.TheVariants.{Branch as To, Part as Into}
use Rattle.spec_bitcoin.specs.Keys.{IsStep}
use Rattle.spec_run.specs.declared.event.Event.{Event}
use Rattle.spec_run.specs.declared.event.Event.TheVariants as events
use Rattle.spec_run.specs.Setup.{Setup, is_declared, contract_at}
use Rattle.spec_run.specs.World.{Output, World, live_position}
use Rattle.spec_run.specs.Conditions.{IsSetup}
use Rattle.spec_run.specs.Ledger.{branch_in}
use Rattle.spec_text.specs.declared.run_fault.RunLimit.TheVariants as limits
use Rattle.spec_text.specs.Limits.{most_events}
use Rattle.spec_text.specs.Lines.{words_of}
use Rattle.spec_text.specs.Words.{◌>>=◌, given}
use Rattle.spec_text.specs.EventLines.{event_of}
use Rattle.spec_text.specs.RunText.{event_text}
use Rattle.spec_text.specs.RunFile.{over, event_within, event_words, event_of_line}
use Rattle.spec_tool.specs.declared.rule.Act.{Act}
use Rattle.spec_tool.specs.declared.rule.Act.TheVariants as acts
use Rattle.spec_tool.specs.declared.rule.Rule.{Rule}
use Rattle.spec_tool.specs.Weights.{last_branch, position_of}
use Rattle.spec_tool.specs.Turns.{stands_at, standing_from, standing_at, taken_at, act_event}
use Rattle.theory_text.proofs.Options.{some, some_is, none_some, came, given_is}
use Rattle.theory_text.proofs.Lines.Decimals.{small_back}
use Rattle.theory_text.proofs.Lines.LineBytes.{LineWord, name_line, name_short, decimal_line, spaced_ends, line_is, line_ends}
use Rattle.theory_text.proofs.Lines.Separated.{spaced, spaced_words}
use Rattle.theory_text.proofs.Lines.ValidRuns.{an_event}
use Rattle.theory_generator.proofs.NumberWords.{line_word, output_word, not_long}
use Rattle.theory_world.proofs.Contracts.Checking.{contract_checked}
use Rattle.theory_world.proofs.Labels.{path_fine}
use Rattle.theory_auto.specs.Continued.{AreTaken}
use Rattle.theory_run.proofs.Events.Births.{most_births}
use Rattle.theory_auto.proofs.FewOutputs.{next_few}
use Rattle.theory_auto.proofs.EventEnds.{EndsNowhere}
use Rattle.theory_auto.proofs.Honest.{IsNamed, HasNames}
use Rattle.theory_auto.proofs.OwnRules.{done_by, is_event}
use Rattle.theory_auto.proofs.Reread.{IsWritten, AreWritten}

-- ---- an event by its words

-- the words of the canonical line of an event, from which it is read
record IsSpelled (parties : List (List ℕ)) (e : Event) : Type 0 where
  words : List (List ℕ)
  text : event_text e ≡ spaced words
  all : AllByRecursion LineWord words
  read : event_of parties words ≡ some e
  short : length (spaced words) ≤ 100

zero_text : decimal 0 ≡ codes "0"
unfolding digits
zero_text = refl

few_digits : (n : ℕ) → n < 2 ^ 32 → length (decimal n) ≤ 10
few_digits n h = length-decimal-le 10 n (omega arith) (omega arith) (omega arith)

module _ (parties : List (List ℕ)) (party : List ℕ) (named : is_name party ≡ true) (declared : is_among party parties ≡ true) where
  commit_spelled : IsSpelled parties (events.Commit 0 party [])
  commit_spelled = record {
    words = codes "commit" ∷ codes "0" ∷ party ∷ [];
    text = rw zero_text refl;
    all = (line_word _ refl, (line_word _ refl, (name_line party named, tt)));
    read = rw declared refl;
    short = omega (arith, length-append party [], name_short party named);
  }

  endorse_spelled : IsSpelled parties (events.Endorse 0 party)
  endorse_spelled = record {
    words = codes "endorse" ∷ codes "0" ∷ party ∷ [];
    text = rw zero_text (ap (λ (xs : List ℕ). codes "endorse 0 " ++ xs) (sym (append-nil party)));
    all = (line_word _ refl, (line_word _ refl, (name_line party named, tt)));
    read = rw declared refl;
    short = omega (arith, length-append party [], name_short party named);
  }

  init_spelled : IsSpelled parties (events.Init 0 party)
  init_spelled = record {
    words = codes "init" ∷ codes "0" ∷ party ∷ [];
    text = rw zero_text (ap (λ (xs : List ℕ). codes "init 0 " ++ xs) (sym (append-nil party)));
    all = (line_word _ refl, (line_word _ refl, (name_line party named, tt)));
    read = rw declared refl;
    short = omega (arith, length-append party [], name_short party named);
  }

  authorise_spelled : (n i : ℕ) → n < 2 ^ 32 → i < 2 ^ 32 → IsSpelled parties (events.Authorise party n i)
  authorise_spelled n i less few = record {
    words = codes "authorise" ∷ party ∷ (35 ∷ decimal n) ∷ decimal i ∷ [];
    text = ap (λ (xs : List ℕ). codes "authorise " ++ (party ++ (codes " #" ++ (decimal n ++ (codes " " ++ xs)))))
        (sym (append-nil (decimal i)));
    all = (line_word _ refl, (name_line party named, (output_word n (omega (arith, less)), (decimal_line i (omega (arith, few)), tt))));
    read = rw (declared, small_back n less, small_back i few) refl;
    short = omega (
      arith,
      length-append party (codes " #" ++ (decimal n ++ (codes " " ++ (decimal i ++ [])))),
      length-append (decimal n) (codes " " ++ (decimal i ++ [])),
      length-append (decimal i) [],
      name_short party named,
      few_digits n less,
      few_digits i few,
    );
  }

  reveal_spelled : (secret : List ℕ) → is_name secret ≡ true → IsSpelled parties (events.Reveal 0 party secret)
  reveal_spelled secret known = record {
    words = codes "reveal" ∷ codes "0" ∷ party ∷ secret ∷ [];
    text = rw zero_text (ap (λ (xs : List ℕ). codes "reveal 0 " ++ (party ++ (codes " " ++ xs))) (sym (append-nil secret)));
    all = (line_word _ refl, (line_word _ refl, (name_line party named, (name_line secret known, tt))));
    read = rw (declared, known) refl;
    short = omega (
      arith,
      length-append party (codes " " ++ (secret ++ [])),
      length-append secret [],
      name_short party named,
      name_short secret known,
    );
  }

fire_init_spelled : (parties : List (List ℕ)) → IsSpelled parties (events.FireInit 0)
fire_init_spelled parties = record {
  words = codes "fire" ∷ codes "init" ∷ codes "0" ∷ [];
  text = rw zero_text refl;
  all = (line_word _ refl, (line_word _ refl, (line_word _ refl, tt)));
  read = refl;
  short = omega arith;
}

fire_spelled : (parties : List (List ℕ)) (n i : ℕ) → n < 2 ^ 32 → i < 2 ^ 32 → IsSpelled parties (events.Fire n i)
fire_spelled parties n i less few = record {
  words = codes "fire" ∷ (35 ∷ decimal n) ∷ decimal i ∷ [];
  text = ap (λ (xs : List ℕ). codes "fire #" ++ (decimal n ++ (codes " " ++ xs))) (sym (append-nil (decimal i)));
  all = (line_word _ refl, (output_word n (omega (arith, less)), (decimal_line i (omega (arith, few)), tt)));
  read = rw (small_back n less, small_back i few) refl;
  short = omega (
    arith,
    length-append (decimal n) (codes " " ++ (decimal i ++ [])),
    length-append (decimal i) [],
    few_digits n less,
    few_digits i few,
  );
}

-- ---- the numbers of outputs and branches

first_below : (k : ℕ) (path : List PathStep) (n m : ℕ) (os : List Output) → standing_from n k path os ≡ some m → m < n + length os
first_below k path n m [] h = absurd (none_some m h)
first_below k path n m (o ∷ os) h = by_output (stands_at k path (live_position (Some o))) h (first_below k path (n + 1) m os)
  where
    by_output : (t : Bool) → (if t then Some n else standing_from (n + 1) k path os) ≡ some m
        → (standing_from (n + 1) k path os ≡ some m → m < (n + 1) + length os) → m < n + suc (length os)
    by_output true e f = let same = some_is n m e in omega (arith, same)
    by_output false e f = let later = f e in omega (arith, later)

last_step : (path : List PathStep) → AllByRecursion IsStep path → last_branch path < 2 ^ 32
last_step [] h = omega arith
last_step (To i ∷ []) h = h.0
last_step (Into k ∷ []) h = omega arith
last_step (s ∷ (t ∷ steps)) h = last_step (t ∷ steps) h.1

-- the steps of a path that a contract has
path_steps : (s : Setup) → IsSetup s → (path : List PathStep) → is_some (branch_in (contract_at s 0) path) ≡ true
    → AllByRecursion IsStep path
path_steps s is path h = by_contract (contract_at s 0) refl h
  where
    by_contract : (o : Option Advert) → contract_at s 0 ≡ o → is_some (branch_in o path) ≡ true → AllByRecursion IsStep path
    by_contract None e f = cc
    by_contract (Some a) e f = by_end (subterm_from (position a.root) path) refl f
      where
        by_end : (o : Option Subterm) → subterm_from (position a.root) path ≡ o → is_some (option_and_then as_branch o) ≡ true
            → AllByRecursion IsStep path
        by_end None e2 g = cc
        by_end (Some end) e2 g = path_fine a path end (contract_checked s is 0 a e) e2

-- the numbers of an output and of a branch
record AreSmall (w : World) (p : ℕ × ℕ) : Type 0 where
  output : p.0 < length w.outputs
  branch : p.1 < 2 ^ 32

taken_small : (s : Setup) → IsSetup s → (w : World) (path : List PathStep) (p : ℕ × ℕ) → taken_at s w path ≡ some p → AreSmall w p
taken_small s is w path p h =
    let a = came (given (is_some (branch_in (contract_at s 0) path)) path)
    (λ known. standing_at w 0 (position_of known) >>= λ n. some (n, last_branch known))
    p h in
    let b = came (standing_at w 0 (position_of a.first)) (λ n. some (n, last_branch a.first)) p a.then' in
    let g = given_is (is_some (branch_in (contract_at s 0) path)) path a.first a.is in
    let less = first_below 0 (position_of a.first) 0 b.first w.outputs b.is in
    let steps = subst (AllByRecursion IsStep) g.same (path_steps s is path g.holds) in
    let one : AreSmall w (b.first, last_branch a.first) = record { output = omega (arith, less); branch = last_step a.first steps } in
    subst (AreSmall w) (some_is (b.first, last_branch a.first) p b.then') one

-- ---- the event of a rule

module _ (s : Setup) (is : IsSetup s) (w : World) (room : length w.outputs ≤ 2 ^ 32) (party : List ℕ) (named : is_name party ≡ true)
    (declared : is_declared s party ≡ true) where
  abbrev Spelled : Event → Type 0
  Spelled e = IsSpelled s.header.parties e

  authorised : (o : Option (ℕ × ℕ)) → ((p : ℕ × ℕ) → o ≡ some p → AreSmall w p) → (e : Event)
      → (o >>= λ p. Some (events.Authorise party (p.0) (p.1))) ≡ some e → Spelled e
  authorised None f e h = absurd (none_some e h)
  authorised (Some p) f e h =
      let small = f p refl in
      subst Spelled (some_is (events.Authorise party (p.0) (p.1)) e h)
      (authorise_spelled s.header.parties party named declared (p.0) (p.1) (omega (arith, small.output, room)) small.branch)

  fired : (o : Option (ℕ × ℕ)) → ((p : ℕ × ℕ) → o ≡ some p → AreSmall w p) → (e : Event)
      → (o >>= λ p. Some (events.Fire (p.0) (p.1))) ≡ some e → Spelled e
  fired None f e h = absurd (none_some e h)
  fired (Some p) f e h =
      let small = f p refl in
      subst Spelled (some_is (events.Fire (p.0) (p.1)) e h)
      (fire_spelled s.header.parties (p.0) (p.1) (omega (arith, small.output, room)) small.branch)

  act_spelled : (act : Act) → IsNamed act → (e : Event) → act_event s w party act ≡ some e → Spelled e
  act_spelled acts.Commit known e h =
      subst Spelled (some_is (events.Commit 0 party []) e h) (commit_spelled s.header.parties party named declared)
  act_spelled acts.Endorse known e h =
      subst Spelled (some_is (events.Endorse 0 party) e h) (endorse_spelled s.header.parties party named declared)
  act_spelled acts.Init known e h = subst Spelled (some_is (events.Init 0 party) e h) (init_spelled s.header.parties party named declared)
  act_spelled (acts.Authorise path) known e h = authorised (taken_at s w path) (taken_small s is w path) e h
  act_spelled (acts.Reveal secret) known e h =
      subst Spelled (some_is (events.Reveal 0 party secret) e h) (reveal_spelled s.header.parties party named declared secret known)
  act_spelled acts.FireInit known e h = subst Spelled (some_is (events.FireInit 0) e h) (fire_init_spelled s.header.parties)
  act_spelled (acts.Fire path) known e h = fired (taken_at s w path) (taken_small s is w path) e h

-- ---- its line

words_say : (parties : List (List ℕ)) (count : ℕ) (words : List (List ℕ)) (e : Event) → event_of parties words ≡ some e
    → count < most_events → event_words parties count words ≡ an_event e
words_say parties count [] e read few = absurd (none_some e read)
words_say parties count (w ∷ ws) e read few = ap (event_within count) read ∙ rw (lt-ltb count most_events few) refl

written : (parties : List (List ℕ)) (count : ℕ) (e : Event) → IsSpelled parties e → count < most_events → IsWritten parties count e
written parties count e s few = record {
  said =
      let cut = spaced_words s.words (line_is s.words s.all) in
      ap (event_of_line parties count) s.text
      ∙ (not_long (spaced s.words) (over limits.Line) (event_words parties count (words_of (spaced s.words))) s.short
      ∙ (ap (event_words parties count) cut ∙ words_say parties count s.words e s.read few));
  ends = subst EndsNowhere (sym s.text) (spaced_ends s.words (line_ends s.words s.all));
}

-- ---- all events that are taken

-- a rule of a declared party, with names that a line can have
pub record IsRule (s : Setup) (r : Rule) : Type 0 where
  pub named : is_name r.party ≡ true
  pub declared : is_declared s r.party ≡ true
  pub names : HasNames r

-- their lines are read, and short
pub record AreAdded (parties : List (List ℕ)) (count : ℕ) (es : List Event) : Type 0 where
  pub written : AreWritten parties count es
  pub short : AllByRecursion (λ e. length (event_text e) ≤ 100) es

pub taken_written : (s : Setup) → IsSetup s → (rs : List Rule) (es : List Event) (w last : World) (count : ℕ) → AllByRecursion (IsRule s) rs
    → AreTaken s w rs es last → length w.outputs + most_births * length es ≤ 2 ^ 32 → count + length es ≤ most_events
    → AreAdded s.header.parties count es
taken_written s is [] [] w last count fine t room few = record { written = tt; short = tt }
taken_written s is [] (e ∷ es) w last count fine t room few = absurd t
taken_written s is (r ∷ rs) [] w last count fine t room few = absurd t
taken_written s is (r ∷ rs) (e ∷ es) w last count fine t room few =
    let rule = fine.0 in
    let one = act_spelled s is w (omega (arith, room)) r.party rule.named rule.declared r.act rule.names e t.has in
    let event = is_event s r.party r.act e rule.declared (done_by s w r.party r.act e t.has) in
    let next = next_few s is w t.next e t.came_to event t.went in
    let later = taken_written s is rs es t.next last (count + 1) fine.1 t.goes_on (omega (arith, room, next)) (omega (arith, few)) in
    record {
      written = (written s.header.parties count e one (omega (arith, few)), later.written);
      short = (subst (λ (xs : List ℕ). length xs ≤ 100) (sym one.text) one.short, later.short);
    }
