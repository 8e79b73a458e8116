-- The statuses of played runs and of further files come exactly by their causes.
use Rattle.std.proofs.Common.{◌≡◌, ℕ, ◌↔◌, Bool, true, false, List, [], ◌∷◌, Option, Some, None, Ok, Err, refl, sym, ap, subst, inl, inr}
use Rattle.std.proofs.Common.{◌∙◌, ◌<◌, length, arith}
use Rattle.std.specs.Prelude.{◌⊎◌, nat_le, if◌then◌else◌, Result, is_err}
use Rattle.std.proofs.lemmas.Bool.{false≢true, leb-false, leb-true, ltb-false, ltb-true}
use Rattle.spec_data.specs.Lists.{has_number, look_up}
use Rattle.spec_terms.specs.Advert.{Advert}
use Rattle.spec_run.specs.declared.event.Event.{Event}
use Rattle.spec_run.specs.declared.event.Run.{Run}
use Rattle.spec_run.specs.declared.header.Header.{Header}
use Rattle.spec_run.specs.Setup.{Setup}
use Rattle.spec_run.specs.Pending.{Collided, Guessed}
use Rattle.spec_run.specs.Event.{opening_collision}
use Rattle.spec_run.specs.Translation.{last_world}
use Rattle.spec_text.specs.PlayText.{Ending, whole, guessed, collided}
use Rattle.spec_text.specs.Played.{ending, play_text}
use Rattle.spec_text.specs.PlanText.{plan_text, make_text}
use Rattle.spec_text.specs.Refusals.{Judged, run_of}
use Rattle.spec_text.specs.Generator.{generated_contract, generated_run}
use Rattle.spec_tool.specs.declared.rule.Rule.{Rule}
use Rattle.spec_tool.specs.declared.rule.StrategyFault.{StrategyFault}
use Rattle.spec_tool.specs.Sizes.{most_audit_bytes}
use Rattle.spec_tool.specs.Reads.{Text, text_at}
use Rattle.spec_tool.specs.Commands.{Command, check, play, plan, make, psbt_of, psbt_shown, psbt_joined, weigh, audit, auto}
use Rattle.spec_tool.specs.Commands.{Printed, JudgedAll, check_judged, both_judged, run_answer, ending_status, contracts_from}
use Rattle.spec_tool.specs.Commands.{setup_of}
use Rattle.spec_tool.specs.Psbt.{Psbt}
use Rattle.spec_tool.specs.PsbtBytes.{Discord, combined}
use Rattle.spec_tool.specs.PsbtText.{psbt_text, psbt_in, shown_judged, joined_judged, combined_answer}
use Rattle.spec_tool.specs.WeighText.{weigh_text}
use Rattle.spec_tool.specs.Audit.{audit_strings, audit_collision}
use Rattle.spec_tool.specs.AuditText.{audit_answer, audited, audit_text}
use Rattle.spec_tool.specs.Strategy.{read_strategy}
use Rattle.spec_tool.specs.Turns.{Progressed, extended}
use Rattle.spec_tool.specs.AutoText.{strategy_in, judged_rules, rules_within, has_room, fits_within, auto_answer, progressed_answer}
use Rattle.spec_tool.specs.AutoText.{size_limit, events_limit}
use Rattle.spec_tool.specs.Answers.{contract_in, run_in, unless_stopped, if_whole, printed_of, audited_file}
use Rattle.spec_tool.specs.Answers.{rules_judged, strategy_file, size_of, text_answer}
use Rattle.spec_tool.specs.Causes.{contracts_of, are_refused}
use Rattle.theory_run.proofs.Halting.Halts.{calm_is, collides}
use Rattle.spec_tool.specs.Reading.{Files, answer_there}
use Rattle.theory_tool.specs.Texts.{bounded}
use Rattle.theory_tool.specs.Runs.{IsGuessing, IsColliding, IsUnhalted}
use Rattle.theory_tool.specs.Statuses.{OfRun, PlaysFiles, HasBytes, HasRules, IsTooMuch, IsRefused, AuditCollides, AuditIsCalm}
use Rattle.theory_tool.specs.Statuses.{TurnsCollide, TurnsGuess, TurnsEnd, Guess, Collision, AuditRefused, StrategyRefused}
use Rattle.theory_tool.specs.Statuses.{Plays, AllIsWell, StatusesTheorem}
use Rattle.theory_tool.proofs.Statuses.{Answers, apart}
use Rattle.theory_tool.proofs.Completeness.{judged_status}
use Rattle.theory_tool.proofs.FurtherTexts.{further_texts}
use Rattle.theory_tool.proofs.Runs.{Outcome, is_whole, is_guess, is_collision, Different, Exactly, exactly, run_exactly}
use Rattle.theory_tool.proofs.Runs.{apart_or_collides, opens_calmly, last_clear}

-- ---- answers of a run

-- a played run's status is each exactly by its cause
pub record SaysAt (status : ℕ) (A B C D E : Type 0) : Type 0 where
  pub whole : (status ≡ 0) ↔ A
  pub guess : (status ≡ 7) ↔ B
  pub collision : (status ≡ 8) ↔ C
  pub audit : (status ≡ 10) ↔ D
  pub strategy : (status ≡ 11) ↔ E

pub record Says (of : Answers) (A B C D E : OfRun) : Type 0 where
  pub whole : (s : Setup) (es : List Event) → ((of s es).status ≡ 0) ↔ A s es
  pub guess : (s : Setup) (es : List Event) → ((of s es).status ≡ 7) ↔ B s es
  pub collision : (s : Setup) (es : List Event) → ((of s es).status ≡ 8) ↔ C s es
  pub audit : (s : Setup) (es : List Event) → ((of s es).status ≡ 10) ↔ D s es
  pub strategy : (s : Setup) (es : List Event) → ((of s es).status ≡ 11) ↔ E s es

-- what is claimed of no run
abbrev none : OfRun
none s es = ⊥

never : (n status : ℕ) (X : Type 0) → has_number n (0 ∷ (7 ∷ (8 ∷ []))) ≡ false → has_number status (0 ∷ (7 ∷ (8 ∷ []))) ≡ true → (X → ⊥)
    → (status ≡ n) ↔ X
never n status X other few empty = (λ e. absurd (apart n (0 ∷ (7 ∷ (8 ∷ []))) other status few e), λ x. absurd (empty x))

says_three : (of : Answers) (A B C : OfRun) → ((s : Setup) (es : List Event) → Exactly (A s es) (B s es) (C s es) (of s es).status)
    → Says of A B C none none
says_three of A B C h = record {
  whole = λ s es. (h s es).whole;
  guess = λ s es. (h s es).guess;
  collision = λ s es. (h s es).collision;
  audit = λ s es. never 10 (of s es).status ⊥ refl (h s es).few (λ x. x);
  strategy = λ s es. never 11 (of s es).status ⊥ refl (h s es).few (λ x. x);
}

run_says : (text : Setup → List Event → List ℕ) → Says (run_answer text) IsUnhalted IsGuessing IsColliding none none
run_says text = says_three (run_answer text) IsUnhalted IsGuessing IsColliding run_exactly

-- a text of a run that isn't halted has the status of its end
plain_status : (e : Ending) (printed : Printed) → printed.status ≡ 0 → (unless_stopped (ending_status e) e printed).status ≡ ending_status e
plain_status (whole tip live g offers) printed h = h
plain_status (guessed event party secret) printed h = refl
plain_status (collided event earlier later) printed h = refl

text_says : (text : Setup → List Event → List ℕ) → Says (if_whole (printed_of text)) IsUnhalted IsGuessing IsColliding none none
text_says text =
    says_three (if_whole (printed_of text)) IsUnhalted IsGuessing IsColliding
    (λ s es. subst (λ (n : ℕ). Exactly (IsUnhalted s es) (IsGuessing s es) (IsColliding s es) n)
    (sym (plain_status (ending s es) (printed_of text s es) refl)) (run_exactly s es))

-- ---- audits

module _ (s : Setup) (es : List Event) (text : List ℕ) where
  abbrev AuditWhole : Type 0
  AuditWhole = IsUnhalted s es × AuditIsCalm s es text

  abbrev AuditCollision : Type 0
  AuditCollision = IsColliding s es ⊎ (IsUnhalted s es × AuditCollides s es text)

  audit_apart : Different AuditWhole (IsGuessing s es) AuditCollision
  audit_apart = record {
    whole_guess = λ u g. unhalted_or_guess u.0 g;
    whole_collision = λ u c. whole_or u c;
    guess_collision = λ g c. guess_or g c;
  }
    where
      unhalted_or_guess : IsUnhalted s es → IsGuessing s es → ⊥
      unhalted_or_guess u g = omega (arith, (run_exactly s es).whole.1 u, (run_exactly s es).guess.1 g)

      whole_or : AuditWhole → AuditCollision → ⊥
      whole_or u (inl c) = omega (arith, (run_exactly s es).whole.1 u.0, (run_exactly s es).collision.1 c)
      whole_or u (inr c) =
          apart_or_collides s.hash (last_world s es).hashed (audit_strings s (last_world s es) text) c.1.0 c.1.1 u.1 c.1.2

      guess_or : IsGuessing s es → AuditCollision → ⊥
      guess_or g (inl c) = omega (arith, (run_exactly s es).guess.1 g, (run_exactly s es).collision.1 c)
      guess_or g (inr c) = unhalted_or_guess c.0 g

  audit_after : opening_collision s ≡ None → IsUnhalted s es
      → Outcome AuditWhole (IsGuessing s es) AuditCollision (audit_answer text s es).status
  unfolding audit_answer
  audit_after opens u = by_pair (audit_collision s (last_world s es) text) refl
    where
      by_pair : (o : Option (List ℕ × List ℕ)) → audit_collision s (last_world s es) text ≡ o
          → Outcome AuditWhole (IsGuessing s es) AuditCollision (audited o (audit_text s (last_world s es) text)).status
      by_pair None h =
          is_whole refl (u, calm_is s.hash (last_world s es).hashed (audit_strings s (last_world s es) text) (last_clear s es opens) h)
      by_pair (Some pair) h = is_collision refl (inr (
        u,
        (
          pair.0,
          pair.1,
          collides s.hash (last_world s es).hashed (audit_strings s (last_world s es) text) pair.0 pair.1 (last_clear s es opens) h,
        ),
      ))

  audit_ends : (e : Ending) → ending s es ≡ e
      → Outcome AuditWhole (IsGuessing s es) AuditCollision (unless_stopped (ending_status e) e (audit_answer text s es)).status
  audit_ends (whole tip live g offers) h =
      let zero : ending_status (ending s es) ≡ 0 = ap ending_status h in
      audit_after (opens_calmly s es zero) ((run_exactly s es).whole.0 zero)
  audit_ends (guessed event party secret) h = is_guess refl ((run_exactly s es).guess.0 (ap ending_status h))
  audit_ends (collided event earlier later) h = is_collision refl (inl ((run_exactly s es).collision.0 (ap ending_status h)))

  audit_exactly : Exactly AuditWhole (IsGuessing s es) AuditCollision (if_whole (audit_answer text) s es).status
  audit_exactly =
      exactly AuditWhole (IsGuessing s es) AuditCollision (if_whole (audit_answer text) s es).status audit_apart
      (audit_ends (ending s es) refl)

-- a status that isn't another
fixed : (m n : ℕ) (X : Type 0) → (m ≡ n → ⊥) → (X → ⊥) → (m ≡ n) ↔ X
fixed m n X different empty = (λ e. absurd (different e), λ x. absurd (empty x))

-- the statuses of a refused further file
abbrev ten : ℕ
ten = 10

abbrev eleven : ℕ
eleven = 11

audit_says : (t : Text) → Says (audited_file t) (λ s es. HasBytes t (AuditWhole s es)) (λ s es. HasBytes t (λ text. IsGuessing s es))
    (λ s es. HasBytes t (AuditCollision s es)) (λ s es. t ≡ None) none
audit_says None = record {
  whole = λ s es. fixed ten 0 ⊥ (λ e. omega (arith, e)) (λ x. x);
  guess = λ s es. fixed ten 7 ⊥ (λ e. omega (arith, e)) (λ x. x);
  collision = λ s es. fixed ten 8 ⊥ (λ e. omega (arith, e)) (λ x. x);
  audit = λ s es. (λ e. refl, λ e. refl);
  strategy = λ s es. fixed ten 11 ⊥ (λ e. omega (arith, e)) (λ x. x);
}
audit_says (Some text) = record {
  whole = λ s es. (audit_exactly s es text).whole;
  guess = λ s es. (audit_exactly s es text).guess;
  collision = λ s es. (audit_exactly s es text).collision;
  audit = λ s es. never 10 (if_whole (audit_answer text) s es).status _ refl (audit_exactly s es text).few (λ e. none_is text (sym e));
  strategy = λ s es. never 11 (if_whole (audit_answer text) s es).status ⊥ refl (audit_exactly s es text).few (λ x. x);
}
  where
    none_is : (x : List ℕ) → None ≡ Some x → ⊥
    none_is x e = cc

-- ---- strategies

module _ (s : Setup) (es : List Event) (rules : List Rule) where
  abbrev AutoWhole : Type 0
  AutoWhole = IsUnhalted s es × TurnsEnd s es rules

  abbrev AutoGuess : Type 0
  AutoGuess = IsGuessing s es ⊎ (IsUnhalted s es × TurnsGuess s es rules)

  abbrev AutoCollision : Type 0
  AutoCollision = IsColliding s es ⊎ (IsUnhalted s es × TurnsCollide s es rules)

  auto_apart : Different AutoWhole AutoGuess AutoCollision
  auto_apart = record { whole_guess = whole_or; whole_collision = whole_or_not; guess_collision = guess_or }
    where
      unhalted_or_guess : IsUnhalted s es → IsGuessing s es → ⊥
      unhalted_or_guess u g = omega (arith, (run_exactly s es).whole.1 u, (run_exactly s es).guess.1 g)

      unhalted_or_collision : IsUnhalted s es → IsColliding s es → ⊥
      unhalted_or_collision u c = omega (arith, (run_exactly s es).whole.1 u, (run_exactly s es).collision.1 c)

      ends_or : TurnsEnd s es rules → TurnsGuess s es rules → ⊥
      ends_or t g =
          let a = t.1 in
          let b = g.2 in
          cc

      ends_or_not : TurnsEnd s es rules → TurnsCollide s es rules → ⊥
      ends_or_not t c =
          let a = t.1 in
          let b = c.2 in
          cc

      turns_or : TurnsGuess s es rules → TurnsCollide s es rules → ⊥
      turns_or g c =
          let a = g.2 in
          let b = c.2 in
          cc

      whole_or : AutoWhole → AutoGuess → ⊥
      whole_or u (inl g) = unhalted_or_guess u.0 g
      whole_or u (inr g) = ends_or u.1 g.1

      whole_or_not : AutoWhole → AutoCollision → ⊥
      whole_or_not u (inl c) = unhalted_or_collision u.0 c
      whole_or_not u (inr c) = ends_or_not u.1 c.1

      guess_or : AutoGuess → AutoCollision → ⊥
      guess_or (inl g) (inl c) = omega (arith, (run_exactly s es).guess.1 g, (run_exactly s es).collision.1 c)
      guess_or (inl g) (inr c) = unhalted_or_guess c.0 g
      guess_or (inr g) (inl c) = unhalted_or_collision g.0 c
      guess_or (inr g) (inr c) = turns_or g.1 c.1

  auto_after : IsUnhalted s es → Outcome AutoWhole AutoGuess AutoCollision (auto_answer rules s es).status
  unfolding auto_answer
  auto_after u = by_turns (extended s (last_world s es) rules) refl
    where
      by_turns : (p : Progressed) → extended s (last_world s es) rules ≡ p
          → Outcome AutoWhole AutoGuess AutoCollision (progressed_answer s.header es p).status
      by_turns (Ok progress) h = is_whole refl (u, (progress, h))
      by_turns (Err (Collided earlier later)) h = is_collision refl (inr (u, (earlier, later, h)))
      by_turns (Err (Guessed party name)) h = is_guess refl (inr (u, (party, name, h)))

  auto_ends : (e : Ending) → ending s es ≡ e
      → Outcome AutoWhole AutoGuess AutoCollision (unless_stopped (ending_status e) e (auto_answer rules s es)).status
  auto_ends (whole tip live g offers) h = auto_after ((run_exactly s es).whole.0 (ap ending_status h))
  auto_ends (guessed event party secret) h = is_guess refl (inl ((run_exactly s es).guess.0 (ap ending_status h)))
  auto_ends (collided event earlier later) h = is_collision refl (inl ((run_exactly s es).collision.0 (ap ending_status h)))

  auto_exactly : Exactly AutoWhole AutoGuess AutoCollision (if_whole (auto_answer rules) s es).status
  auto_exactly =
      exactly AutoWhole AutoGuess AutoCollision (if_whole (auto_answer rules) s es).status auto_apart (auto_ends (ending s es) refl)

-- ---- strategies that are refused

abbrev refused_rules : List ℕ → Judged (List Rule)
refused_rules why = Err why

-- what is taken of a text's rules is within both limits
limits_exactly : (run_bytes : ℕ) (es : List Event) (rules : List Rule)
    → (is_err (rules_within run_bytes es rules) ≡ true) ↔ IsTooMuch run_bytes es rules
limits_exactly run_bytes es rules = by_room (has_room es rules) (fits_within run_bytes rules) refl refl
  where
    by_room : (b c : Bool) → has_room es rules ≡ b → fits_within run_bytes rules ≡ c
        → (is_err (if b then (if c then Ok rules else refused_rules size_limit) else refused_rules events_limit) ≡ true)
        ↔ IsTooMuch run_bytes es rules
    by_room false c hb hc = (λ e. inl (leb-false _ _ hb), λ m. refl)
    by_room true false hb hc = (λ e. inr (ltb-false _ _ hc), λ m. refl)
    by_room true true hb hc = (λ e. absurd (false≢true e), λ m. absurd (within m))
      where
        within : IsTooMuch run_bytes es rules → ⊥
        within (inl m) = omega (arith, m, leb-true _ _ hb)
        within (inr m) = omega (arith, m, ltb-true _ _ hc)

text_exactly : (run_bytes : ℕ) (h : Header) (es : List Event) (text : List ℕ)
    → (is_err (judged_rules run_bytes es (read_strategy h text)) ≡ true) ↔ IsRefused run_bytes h es (Some text)
text_exactly run_bytes h es text = by_read (read_strategy h text) refl
  where
    by_read : (r : Result (List Rule) StrategyFault) → read_strategy h text ≡ r
        → (is_err (judged_rules run_bytes es r) ≡ true) ↔ IsRefused run_bytes h es (Some text)
    by_read (Err fault) e = (λ k. inl (fault, e), λ m. refl)
    by_read (Ok rules) e = (λ k. inr (rules, e, (limits_exactly run_bytes es rules).0 k), back)
      where
        back : IsRefused run_bytes h es (Some text) → is_err (rules_within run_bytes es rules) ≡ true
        back (inl m) =
            let k = m.1 in
            absurd (cc)
        back (inr m) =
            let k = m.1 in
            let same : m.0 ≡ rules = cc in
            (limits_exactly run_bytes es rules).1 (subst (IsTooMuch run_bytes es) same m.2)

pub strategy_exactly : (run_bytes : ℕ) (h : Header) (es : List Event) (t : Text)
    → (is_err (strategy_in run_bytes h es t) ≡ true) ↔ IsRefused run_bytes h es t
strategy_exactly run_bytes h es None = (λ e. tt, λ e. refl)
strategy_exactly run_bytes h es (Some text) = text_exactly run_bytes h es text

-- the answer by the rules, whatever refuses them
rules_exactly : (j : Judged (List Rule)) (X : Type 0) → (is_err j ≡ true) ↔ X → (s : Setup) (es : List Event)
    → SaysAt (rules_judged j s es).status (HasRules j (AutoWhole s es)) (HasRules j (AutoGuess s es)) (HasRules j (AutoCollision s es)) ⊥ X
rules_exactly (Err why) X h s es = record {
  whole = fixed eleven 0 ⊥ (λ e. omega (arith, e)) (λ x. x);
  guess = fixed eleven 7 ⊥ (λ e. omega (arith, e)) (λ x. x);
  collision = fixed eleven 8 ⊥ (λ e. omega (arith, e)) (λ x. x);
  audit = fixed eleven 10 ⊥ (λ e. omega (arith, e)) (λ x. x);
  strategy = (λ e. h.0 refl, λ x. refl);
}
rules_exactly (Ok rules) X h s es = record {
  whole = (auto_exactly s es rules).whole;
  guess = (auto_exactly s es rules).guess;
  collision = (auto_exactly s es rules).collision;
  audit = never 10 (if_whole (auto_answer rules) s es).status ⊥ refl (auto_exactly s es rules).few (λ x. x);
  strategy = never 11 (if_whole (auto_answer rules) s es).status X refl (auto_exactly s es rules).few (λ x. false≢true (h.1 x));
}

abbrev Rules : Text → Text → Setup → List Event → Judged (List Rule)
Rules run t s es = strategy_in (size_of run) s.header es t

auto_says : (run t : Text)
    → Says (strategy_file run t) (λ s es. HasRules (Rules run t s es) (AutoWhole s es))
    (λ s es. HasRules (Rules run t s es) (AutoGuess s es))
    (λ s es. HasRules (Rules run t s es) (AutoCollision s es)) none (λ s es. IsRefused (size_of run) s.header es t)
auto_says run t = record {
  whole = λ s es. (at s es).whole;
  guess = λ s es. (at s es).guess;
  collision = λ s es. (at s es).collision;
  audit = λ s es. (at s es).audit;
  strategy = λ s es. (at s es).strategy;
}
  where
    at : (s : Setup) (es : List Event)
        → SaysAt (strategy_file run t s es).status (HasRules (Rules run t s es) (AutoWhole s es))
        (HasRules (Rules run t s es) (AutoGuess s es))
        (HasRules (Rules run t s es) (AutoCollision s es)) ⊥ (IsRefused (size_of run) s.header es t)
    at s es = rules_exactly (Rules run t s es) _ (strategy_exactly (size_of run) s.header es t) s es

-- ---- run and contracts

-- what is answered where neither is refused
both_exactly : (of : Answers) (n : ℕ) (claim : OfRun) → has_number n (1 ∷ (6 ∷ [])) ≡ false
    → ((s : Setup) (es : List Event) → ((of s es).status ≡ n) ↔ claim s es)
    → (hash : List ℕ → List ℕ) (run : Judged Run) (all : JudgedAll)
    → ((both_judged of hash run all).status ≡ n) ↔ PlaysFiles hash claim run all
both_exactly of n claim other h hash (Err why) all = (λ e. apart n (1 ∷ (6 ∷ [])) other 6 refl e, λ x. absurd x)
both_exactly of n claim other h hash (Ok run) (Err refusal) = (λ e. apart n (1 ∷ (6 ∷ [])) other 1 refl e, λ x. absurd x)
both_exactly of n claim other h hash (Ok run) (Ok adverts) = h (setup_of hash run adverts) run.events

files_say : (of : Answers) (A B C D E : OfRun) → Says of A B C D E → (hash : List ℕ → List ℕ) (run : Judged Run) (all : JudgedAll)
    → SaysAt (both_judged of hash run all).status (PlaysFiles hash A run all) (PlaysFiles hash B run all) (PlaysFiles hash C run all)
    (PlaysFiles hash D run all) (PlaysFiles hash E run all)
files_say of A B C D E h hash run all = record {
  whole = both_exactly of 0 A refl h.whole hash run all;
  guess = both_exactly of 7 B refl h.guess hash run all;
  collision = both_exactly of 8 C refl h.collision hash run all;
  audit = both_exactly of 10 D refl h.audit hash run all;
  strategy = both_exactly of 11 E refl h.strategy hash run all;
}

-- ---- commands without a run

-- statuses of the commands that play no run
abbrev without : List ℕ
without = 0 ∷ (1 ∷ (9 ∷ []))

-- of them no played run has the status
not_played : (status : ℕ) (A : Type 0) → has_number status without ≡ true → (status ≡ 0) ↔ A → SaysAt status A ⊥ ⊥ ⊥ ⊥
not_played status A h w = record {
  whole = w;
  guess = (λ e. apart 7 without refl status h e, λ x. absurd x);
  collision = (λ e. apart 8 without refl status h e, λ x. absurd x);
  audit = (λ e. apart 10 without refl status h e, λ x. absurd x);
  strategy = (λ e. apart 11 without refl status h e, λ x. absurd x);
}

check_says : (j : Judged Advert) → SaysAt (check_judged j).status (is_err j ≡ false) ⊥ ⊥ ⊥ ⊥
check_says (Ok advert) = not_played 0 _ refl (λ e. refl, λ e. refl)
check_says (Err why) = not_played 1 _ refl (λ e. absurd (omega (arith, e)), λ e. absurd (false≢true (sym e)))

shown_says : (j : Judged Psbt) → SaysAt (shown_judged j).status (is_err j ≡ false) ⊥ ⊥ ⊥ ⊥
shown_says (Ok p) = not_played 0 _ refl (λ e. refl, λ e. refl)
shown_says (Err why) = not_played 9 _ refl (λ e. absurd (omega (arith, e)), λ e. absurd (false≢true (sym e)))

combined_says : (r : Result Psbt Discord) → SaysAt (combined_answer r).status (is_err r ≡ false) ⊥ ⊥ ⊥ ⊥
combined_says (Ok p) = not_played 0 _ refl (λ e. refl, λ e. refl)
combined_says (Err why) = not_played 9 _ refl (λ e. absurd (omega (arith, e)), λ e. absurd (false≢true (sym e)))

joined_says : (first second : Judged Psbt) → SaysAt (joined_judged first second).status (are_refused first second ≡ false) ⊥ ⊥ ⊥ ⊥
joined_says (Err why) second = not_played 9 _ refl (λ e. absurd (omega (arith, e)), λ e. absurd (false≢true (sym e)))
joined_says (Ok first) (Err why) = not_played 9 _ refl (λ e. absurd (omega (arith, e)), λ e. absurd (false≢true (sym e)))
joined_says (Ok first) (Ok second) = combined_says (combined first second)

-- ---- all commands

made_says : (of : Answers) (A B C D E : OfRun) → Says of A B C D E → (s : Setup) (es : List Event)
    → SaysAt (of s es).status (A s es) (B s es) (C s es) (D s es) (E s es)
made_says of A B C D E h s es = record {
  whole = h.whole s es;
  guess = h.guess s es;
  collision = h.collision s es;
  audit = h.audit s es;
  strategy = h.strategy s es;
}

abbrev Said : (List ℕ → List ℕ) → Command → List Text → Type 0
Said hash command texts =
    SaysAt (text_answer hash command texts).status (AllIsWell hash command texts) (Plays hash (Guess command texts) command texts)
    (Plays hash (Collision command texts) command texts) (Plays hash (AuditRefused command texts) command texts)
    (Plays hash (StrategyRefused command texts) command texts)

says : (hash : List ℕ → List ℕ) (command : Command) (texts : List Text) → Said hash command texts
says hash (check contract) texts = check_says (contract_in (text_at texts 0))
says hash (play run contracts) texts =
    files_say (run_answer play_text) _ _ _ _ _ (run_says play_text) hash (run_in (text_at texts 0))
    (contracts_of (play run contracts) texts)
says hash (plan run contract) texts =
    files_say (run_answer plan_text) _ _ _ _ _ (run_says plan_text) hash (run_in (text_at texts 0)) (contracts_of (plan run contract) texts)
says hash (make number size) texts =
    made_says (run_answer make_text) _ _ _ _ _ (run_says make_text) (setup_of hash (generated_run number size) (generated_contract number size ∷ []))
    ((generated_run number size).events)
says hash (psbt_of run contract which) texts =
    files_say (if_whole (printed_of (psbt_text which))) _ _ _ _ _ (text_says (psbt_text which)) hash (run_in (text_at texts 0))
    (contracts_of (psbt_of run contract which) texts)
says hash (psbt_shown file) texts = shown_says (psbt_in (text_at texts 0))
says hash (psbt_joined first second) texts = joined_says (psbt_in (text_at texts 0)) (psbt_in (text_at texts 1))
says hash (weigh run contract) texts =
    files_say (if_whole (printed_of weigh_text)) _ _ _ _ _ (text_says weigh_text) hash (run_in (text_at texts 0))
    (contracts_of (weigh run contract) texts)
says hash (audit run contract file) texts =
    files_say (audited_file (text_at texts 2)) _ _ _ _ _ (audit_says (text_at texts 2)) hash (run_in (text_at texts 0))
    (contracts_of (audit run contract file) texts)
says hash (auto run contract strategy) texts =
    files_say (strategy_file (text_at texts 0) (text_at texts 2)) _ _ _ _ _ (auto_says (text_at texts 0) (text_at texts 2)) hash
    (run_in (text_at texts 0)) (contracts_of (auto run contract strategy) texts)

-- ---- the size of an audited file

bounded_none : (limit : ℕ) (text : List ℕ) → (bounded limit text ≡ None) ↔ (limit < length text)
bounded_none limit text = by_test (nat_le (length text) limit) refl
  where
    some_none : (x : List ℕ) → Some x ≡ None → ⊥
    some_none x e = cc

    by_test : (b : Bool) → nat_le (length text) limit ≡ b → ((if b then Some text else None) ≡ None) ↔ (limit < length text)
    by_test true k = (λ e. absurd (some_none text e), λ h. absurd (omega (arith, h, leb-true (length text) limit k)))
    by_test false k = (λ e. leb-false (length text) limit k, λ h. refl)

too_long : (hash : List ℕ → List ℕ) (there : Files) (run run_text contract text file file_text : List ℕ) (r : Run) (adverts : List Advert)
    → look_up run there ≡ Some run_text → look_up contract there ≡ Some text → look_up file there ≡ Some file_text
    → run_of run_text ≡ Ok r → contracts_from 0 (text ∷ []) ≡ Ok adverts
    → ((answer_there hash there (audit run contract file)).status ≡ 10) ↔ (most_audit_bytes < length file_text)
too_long hash there run run_text contract text file file_text r adverts h k l e f =
    let t : Text = bounded most_audit_bytes file_text in
    let is : (answer_there hash there (audit run contract file)).status ≡ (audited_file t (setup_of hash r adverts) r.events).status =
    ap (λ (p : Printed). p.status)
    (further_texts.audit_texts hash there run run_text contract text file file_text h k l
    ∙ judged_status (audited_file t) hash run_text (text ∷ []) r adverts e f) in
    let says_ten = (audit_says t).audit (setup_of hash r adverts) r.events in
    let size = bounded_none most_audit_bytes file_text in (
      λ ten_is. size.0 (says_ten.0 (sym is ∙ ten_is)),
      λ long. is ∙ says_ten.1 (size.1 long),
    )

pub exact_causes : StatusesTheorem
exact_causes = record {
  whole = λ hash command texts. (says hash command texts).whole;
  guessed = λ hash command texts. (says hash command texts).guess;
  collided = λ hash command texts. (says hash command texts).collision;
  audit_refused = λ hash command texts. (says hash command texts).audit;
  audit_too_long = too_long;
  strategy_refused = λ hash command texts. (says hash command texts).strategy;
}
