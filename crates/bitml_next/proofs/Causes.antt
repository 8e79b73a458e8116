-- Each status that texts are answered with comes exactly by its cause.
use Rattle.std.proofs.Common.{◌≡◌, ℕ, ◌↔◌, Bool, true, false, ◌==◌, List, [], ◌∷◌, Option, Some, None, Ok, Err, refl, sym, ap, inl, inr, arith}
use Rattle.std.specs.Prelude.{◌||◌, is_err}
use Rattle.std.proofs.lemmas.Bool.{false≢true}
use Rattle.spec_data.specs.Lists.{has_number}
use Rattle.spec_terms.specs.Advert.{Advert}
use Rattle.spec_run.specs.declared.event.Event.{Event}
use Rattle.spec_run.specs.declared.event.Run.{Run}
use Rattle.spec_run.specs.Setup.{Setup}
use Rattle.spec_run.specs.Event.{opening_collision}
use Rattle.spec_run.specs.Translation.{last_configuration, last_world}
use Rattle.spec_text.specs.PlayText.{Ending, whole, guessed, collided}
use Rattle.spec_text.specs.Played.{ending}
use Rattle.spec_text.specs.Refusals.{Judged}
use Rattle.spec_tool.specs.Reads.{Text}
use Rattle.spec_tool.specs.Commands.{JudgedAll, ending_status, both_judged, setup_of}
use Rattle.spec_tool.specs.Answers.{contract_in, contracts_in, run_in, unless_stopped, if_whole}
use Rattle.spec_next.specs.declared.form.Form.{Form}
use Rattle.spec_next.specs.Foreseen.{foreseen_collision, unless_collided, next_printed}
use Rattle.spec_next.specs.Forms.{next_text}
use Rattle.spec_next.specs.NextAnswer.{begins_judged, next_texts}
use Rattle.theory_run.proofs.Halting.Halts.{calm_is, collides}
use Rattle.theory_tool.specs.Runs.{IsGuessing, IsUnhalted}
use Rattle.theory_tool.specs.Statuses.{PlaysFiles}
use Rattle.theory_tool.proofs.Statuses.{apart}
use Rattle.theory_tool.proofs.Runs.{Outcome, is_whole, is_guess, is_collision, Different, Exactly, exactly, run_exactly}
use Rattle.theory_tool.proofs.Runs.{apart_or_collides, opens_calmly, last_clear}
use Rattle.bitml_next.specs.Causes.{asked_strings, Collision, NoHalt, AllIsWell, Plays, HasCauses, is_run_refused, is_contract_refused}

-- ---- after a run

module _ (form : Form) (party : Option (List ℕ)) (s : Setup) (es : List Event) where
  causes_differ : Different (NoHalt s es) (IsGuessing s es) (Collision s es)
  causes_differ = record {
    whole_guess = λ u g. unhalted_or_guess u.0 g;
    whole_collision = λ u c. whole_or u c;
    guess_collision = λ g c. guess_or g c;
  }
    where
      unhalted_or_guess : IsUnhalted s es → IsGuessing s es → ⊥
      unhalted_or_guess u g = omega (arith, (run_exactly s es).whole.1 u, (run_exactly s es).guess.1 g)

      whole_or : NoHalt s es → Collision s es → ⊥
      whole_or u (inl c) = omega (arith, (run_exactly s es).whole.1 u.0, (run_exactly s es).collision.1 c)
      whole_or u (inr c) =
          apart_or_collides s.hash (last_world s es).hashed (asked_strings s es) c.1.0 c.1.1 u.1 c.1.2

      guess_or : IsGuessing s es → Collision s es → ⊥
      guess_or g (inl c) = omega (arith, (run_exactly s es).guess.1 g, (run_exactly s es).collision.1 c)
      guess_or g (inr c) = unhalted_or_guess c.0 g

  asked_after : opening_collision s ≡ None → IsUnhalted s es
      → Outcome (NoHalt s es) (IsGuessing s es) (Collision s es) (next_printed form party s es).status
  unfolding next_printed
  asked_after opens u = by_pair (foreseen_collision s (last_configuration s es) (last_world s es)) refl
    where
      by_pair : (o : Option (List ℕ × List ℕ)) → foreseen_collision s (last_configuration s es) (last_world s es) ≡ o
          → Outcome (NoHalt s es) (IsGuessing s es) (Collision s es) (unless_collided o (next_text form party s es)).status
      by_pair None h = is_whole refl (u, calm_is s.hash (last_world s es).hashed (asked_strings s es) (last_clear s es opens) h)
      by_pair (Some pair) h = is_collision refl (inr (
        u,
        (
          pair.0,
          pair.1,
          collides s.hash (last_world s es).hashed (asked_strings s es) pair.0 pair.1 (last_clear s es opens) h,
        ),
      ))

  ends_so : (e : Ending) → ending s es ≡ e
      → Outcome (NoHalt s es) (IsGuessing s es) (Collision s es) (unless_stopped (ending_status e) e (next_printed form party s es)).status
  ends_so (whole tip live g offers) h =
      let zero : ending_status (ending s es) ≡ 0 = ap ending_status h in
      asked_after (opens_calmly s es zero) ((run_exactly s es).whole.0 zero)
  ends_so (guessed event party secret) h = is_guess refl ((run_exactly s es).guess.0 (ap ending_status h))
  ends_so (collided event earlier later) h = is_collision refl (inl ((run_exactly s es).collision.0 (ap ending_status h)))

  run_causes : Exactly (NoHalt s es) (IsGuessing s es) (Collision s es) (if_whole (next_printed form party) s es).status
  run_causes =
      exactly (NoHalt s es) (IsGuessing s es) (Collision s es) (if_whole (next_printed form party) s es).status causes_differ
      (ends_so (ending s es) refl)

-- ---- after the files

-- a status is each exactly by its cause, and no other
record ByCauses (A B C D E : Type 0) (n : ℕ) : Type 0 where
  whole : (n ≡ 0) ↔ A
  contract : (n ≡ 1) ↔ B
  run : (n ≡ 6) ↔ C
  guess : (n ≡ 7) ↔ D
  collision : (n ≡ 8) ↔ E
  few : has_number n (0 ∷ (1 ∷ (6 ∷ (7 ∷ (8 ∷ []))))) ≡ true

-- neither comes
neither_is : (n m : ℕ) (X : Type 0) → (n ≡ m → ⊥) → (X → ⊥) → (n ≡ m) ↔ X
neither_is n m X other empty = (λ e. absurd (other e), λ x. absurd (empty x))

-- statuses, with names
abbrev zero_status : ℕ
zero_status = 0

abbrev one : ℕ
one = 1

abbrev six : ℕ
six = 6

not_false : true ≡ false → ⊥
not_false e = false≢true (sym e)

wider : (a b c x y : Bool) → (a || (b || (c || false))) ≡ true → (a || (x || (y || (b || (c || false))))) ≡ true
wider a b c x y h = grind arith

module _ (hash : List ℕ → List ℕ) (form : Form) (party : Option (List ℕ)) where
  refused_run : (D E : Type 0) → (D → ⊥) → (E → ⊥) → (B : Type 0) → (B → ⊥) → ByCauses ⊥ B (true ≡ true) D E six
  refused_run D E no_d no_e B no_b = record {
    whole = neither_is six 0 ⊥ (λ e. omega (arith, e)) (λ x. x);
    contract = neither_is six 1 B (λ e. omega (arith, e)) no_b;
    run = (λ e. refl, λ e. refl);
    guess = neither_is six 7 D (λ e. omega (arith, e)) no_d;
    collision = neither_is six 8 E (λ e. omega (arith, e)) no_e;
    few = refl;
  }

  refused_contract : (A D E : Type 0) → (A → ⊥) → (D → ⊥) → (E → ⊥)
      → ByCauses A ((false ≡ false) × (true ≡ true)) (false ≡ true) D E one
  refused_contract A D E no_a no_d no_e = record {
    whole = neither_is one 0 A (λ e. omega (arith, e)) no_a;
    contract = (λ e. (refl, refl), λ e. refl);
    run = neither_is one 6 (false ≡ true) (λ e. omega (arith, e)) false≢true;
    guess = neither_is one 7 D (λ e. omega (arith, e)) no_d;
    collision = neither_is one 8 E (λ e. omega (arith, e)) no_e;
    few = refl;
  }

  played_run : (s : Setup) (es : List Event)
      → ByCauses (NoHalt s es) ((false ≡ false) × (false ≡ true)) (false ≡ true) (IsGuessing s es) (Collision s es)
      (if_whole (next_printed form party) s es).status
  played_run s es =
      let n = (if_whole (next_printed form party) s es).status in
      let x = run_causes form party s es in
      record {
        whole = x.whole;
        contract = neither_is n 1 ((false ≡ false) × (false ≡ true)) (apart 1 (0 ∷ (7 ∷ (8 ∷ []))) refl n x.few) (λ b. false≢true b.1);
        run = neither_is n 6 (false ≡ true) (apart 6 (0 ∷ (7 ∷ (8 ∷ []))) refl n x.few) false≢true;
        guess = x.guess;
        collision = x.collision;
        few = wider (0 == n) (7 == n) (8 == n) (1 == n) (6 == n) x.few;
      }

  of_files : (run : Judged Run) (contracts : JudgedAll)
      → ByCauses (PlaysFiles hash NoHalt run contracts) ((is_err run ≡ false) × (is_err contracts ≡ true)) (is_err run ≡ true)
      (PlaysFiles hash IsGuessing run contracts) (PlaysFiles hash Collision run contracts)
      (both_judged (if_whole (next_printed form party)) hash run contracts).status
  of_files (Err why) contracts = refused_run ⊥ ⊥ (λ x. x) (λ x. x) ((true ≡ false) × (is_err contracts ≡ true)) (λ b. not_false b.0)
  of_files (Ok run) (Err refusal) = refused_contract ⊥ ⊥ ⊥ (λ x. x) (λ x. x) (λ x. x)
  of_files (Ok run) (Ok adverts) = played_run (setup_of hash run adverts) run.events

  of_contract : (contract : Judged Advert)
      → ByCauses (is_err contract ≡ false) ((false ≡ false) × (is_err contract ≡ true)) (false ≡ true) ⊥ ⊥ (begins_judged contract).status
  of_contract (Err why) = refused_contract (true ≡ false) ⊥ ⊥ not_false (λ x. x) (λ x. x)
  of_contract (Ok advert) = record {
    whole = (λ e. refl, λ e. refl);
    contract = neither_is zero_status 1 ((false ≡ false) × (false ≡ true)) (λ e. omega (arith, e)) (λ b. false≢true b.1);
    run = neither_is zero_status 6 (false ≡ true) (λ e. omega (arith, e)) false≢true;
    guess = neither_is zero_status 7 ⊥ (λ e. omega (arith, e)) (λ x. x);
    collision = neither_is zero_status 8 ⊥ (λ e. omega (arith, e)) (λ x. x);
    few = refl;
  }

  -- of the texts of one file or more
  of_texts : (first : Text) (more : List Text)
      → ByCauses (AllIsWell hash (first ∷ more)) ((is_run_refused (first ∷ more) ≡ false) × (is_contract_refused (first ∷ more) ≡ true))
      (is_run_refused (first ∷ more) ≡ true) (Plays hash IsGuessing (first ∷ more)) (Plays hash Collision (first ∷ more))
      (next_texts hash form party (first ∷ more)).status
  of_texts contract [] = of_contract (contract_in contract)
  of_texts run (contract ∷ contracts) = of_files (run_in run) (contracts_in 0 (contract ∷ contracts))

  -- the usage is none of them
  abbrev two : ℕ
  two = 2

  pub causes : (texts : List Text) → HasCauses hash texts (next_texts hash form party texts).status
  causes [] = record {
    whole = neither_is two 0 ⊥ (λ e. omega (arith, e)) (λ x. x);
    contract_refused = neither_is two 1 ((false ≡ false) × (false ≡ true)) (λ e. omega (arith, e)) (λ b. false≢true b.1);
    run_refused = neither_is two 6 (false ≡ true) (λ e. omega (arith, e)) false≢true;
    guessed = neither_is two 7 ⊥ (λ e. omega (arith, e)) (λ x. x);
    collided = neither_is two 8 ⊥ (λ e. omega (arith, e)) (λ x. x);
  }
  causes (first ∷ more) =
      let x = of_texts first more in
      record { whole = x.whole; contract_refused = x.contract; run_refused = x.run; guessed = x.guess; collided = x.collision }

  -- texts of files are answered with one of these
  pub known : (first : Text) (more : List Text)
      → has_number (next_texts hash form party (first ∷ more)).status (0 ∷ (1 ∷ (6 ∷ (7 ∷ (8 ∷ []))))) ≡ true
  known first more = (of_texts first more).few
