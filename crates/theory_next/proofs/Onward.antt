-- A run that goes on, and one event more: it halts there, or goes on with the events that come later.
use Rattle.std.proofs.Common.{◌≡◌, ℕ, List, [], ◌∷◌, ◌++◌, true, false, Option, Some, None, refl, sym, ap, ◌∙◌, subst, append_assoc}
use Rattle.std.specs.Prelude.{not}
use Rattle.std.specs.List.{list_all}
use Rattle.std.proofs.lemmas.Bool.{and_from}
use Rattle.spec_data.specs.Lists.{has_number}
use Rattle.spec_data.specs.Messages.{collision}
use Rattle.spec_run.specs.declared.event.Event.{Event}
use Rattle.spec_run.specs.declared.header.HeldSecret.{HeldSecret}
use Rattle.spec_run.specs.Setup.{Setup}
use Rattle.spec_run.specs.World.{World}
use Rattle.spec_run.specs.Pending.{Pending, Halt, Collided, Guessed, Halted, guess, applied, apply}
use Rattle.spec_run.specs.Event.{Passed, Progress, pending, event, goes_on, onto_passed, opening_world, played_from, played}
use Rattle.spec_run.specs.Values.{is_refused}
use Rattle.spec_run.specs.Conditions.{IsEvent}
use Rattle.spec_run.specs.Translation.{world_after, opening_configuration, last_world, first_halt}
use Rattle.spec_run.specs.Statements.{IsRun}
use Rattle.spec_run.proofs.Courses.{before, left_more, last_left, passing, played-halted, played_more}
use Rattle.theory_calculus.proofs.Members.{all_append}
use Rattle.theory_run.proofs.Following.{run_posts}
use Rattle.theory_run.proofs.Worlds.Committed.{all_push}
use Rattle.theory_next.specs.FirstEvents.{MayHalt, HaltsOnlySo}

-- none of these events was refused
abbrev pub AllPass : List Passed → Type 0
AllPass ps = list_all (λ (p : Passed). not (is_refused p.pending.outcome)) ps ≡ true

-- the run so far: it goes on
pub record GoesSoFar (s : Setup) (es : List Event) : Type 0 where
  pub run : IsRun s es
  pub on : first_halt s es ≡ None
  pub fine : AllPass (played s es).passed

-- what was played is fine, and so is the halt; without one the first contract has begun
pub record Fine (s : Setup) (p : Progress) : Type 0 where
  pub passes : AllPass p.passed
  pub begins : p.halt ≡ None → has_number 0 (world_after (opening_world s) p.passed).begun ≡ true
  pub halts : HaltsOnlySo s p.halt

-- the world that was left
pub left : (s : Setup) (es : List Event) → last_world s es ≡ world_after (opening_world s) (played s es).passed
left s es = last_left s (run_posts s es) (played s es).passed (opening_configuration s) (opening_world s)

pub fine_so_far : (s : Setup) (es : List Event) → GoesSoFar s es → has_number 0 (last_world s es).begun ≡ true → Fine s (played s es)
fine_so_far s es so begun = record {
  passes = so.fine;
  begins = λ on. subst (λ (w : World). has_number 0 w.begun ≡ true) (left s es) begun;
  halts = subst (HaltsOnlySo s) (sym so.on) tt;
}

-- where these events go on, the later ones are played from the world that they left
played_on : (s : Setup) (es later : List Event) (w last : World)
    → (played_from s w es).halt ≡ None → world_after w (played_from s w es).passed ≡ last
    → played_from s w (es ++ later) ≡ before (played_from s w es).passed (played_from s last later)
played_on s [] later w last on there = ap (λ x. played_from s x later) there
played_on s (x ∷ es) later w last on there =
    let d = pending s w x in
    by_answer (collision s.hash w.hashed d.hashes) (guess s w.posted d.posts d.allowed) on there
    (λ next f t. played_on s es later next last f t)
  where
    by_answer : (c : Option (List ℕ × List ℕ)) (u : Option HeldSecret)
        → (goes_on x (apply w (pending s w x) c u) (λ next. played_from s next es)).halt ≡ None
        → world_after w (goes_on x (apply w (pending s w x) c u) (λ next. played_from s next es)).passed ≡ last
        → ((next : World) → (played_from s next es).halt ≡ None → world_after next (played_from s next es).passed ≡ last
        → played_from s next (es ++ later) ≡ before (played_from s next es).passed (played_from s last later))
        → goes_on x (apply w (pending s w x) c u) (λ next. played_from s next (es ++ later))
        ≡ before (goes_on x (apply w (pending s w x) c u) (λ next. played_from s next es)).passed (played_from s last later)
    by_answer (Some pair) u f t ih = cc
    by_answer None (Some held) f t ih = cc
    by_answer None None f t ih = ap (onto_passed (passing s w x)) (ih (applied w (pending s w x)) f t)

module _ (s : Setup) (es : List Event) (so : GoesSoFar s es) (e : Event) (is : IsEvent s e) (later : List Event) where
  abbrev w : World
  w = last_world s es

  abbrev d : Pending
  d = pending s w e

  -- where it halts, the later events aren't played
  halting : (h : Halt) → event s w e ≡ Halted h → MayHalt s e h → Fine s (played s (es ++ e ∷ later))
  halting h answer may =
      let all = played_on s es (e ∷ later) (opening_world s) w so.on (sym (left s es))
      ∙ ap (before (played s es).passed) (played-halted s w e later h answer) in
      subst (Fine s) (sym all) (record {
        passes = all_append (λ (p : Passed). not (is_refused p.pending.outcome)) (played s es).passed [] so.fine refl;
        begins = λ on. cc;
        halts = may;
      })

  -- the run with this event goes on
  pub record GoesOnSo : Type 0 where
    pub so_far : GoesSoFar s (es ++ e ∷ [])
    pub world : last_world s (es ++ e ∷ []) ≡ applied w d

  further : collision s.hash w.hashed d.hashes ≡ None → guess s w.posted d.posts d.allowed ≡ None
      → is_refused d.outcome ≡ false → GoesOnSo
  further calm unguessed passes =
      let more = played_more s es e (opening_world s) w so.on (sym (left s es)) calm unguessed in
      record {
        so_far = record {
          run = record { setup = so.run.setup; opens = so.run.opens; events = all_push (IsEvent s) es e so.run.events is };
          on = ap (λ (p : Progress). p.halt) more;
          fine = subst (λ (p : Progress). AllPass p.passed) (sym more)
              (all_append (λ (p : Passed). not (is_refused p.pending.outcome)) (played s es).passed (passing s w e ∷ []) so.fine
              (and_from _ _ (ap not passes) refl));
        };
        world = left s (es ++ e ∷ []) ∙ ap (λ (p : Progress). world_after (opening_world s) p.passed) more
            ∙ left_more (played s es).passed (passing s w e) (opening_world s);
      }

  -- the event collides or guesses as it may, or isn't refused, and what comes later is fine
  pub goes : (collision s.hash w.hashed d.hashes ≡ None → is_refused d.outcome ≡ false)
      → ((pair : List ℕ × List ℕ) → collision s.hash w.hashed d.hashes ≡ Some pair → MayHalt s e (Collided (pair.0) (pair.1)))
      → ((held : HeldSecret) → collision s.hash w.hashed d.hashes ≡ None → guess s w.posted d.posts d.allowed ≡ Some held
      → MayHalt s e (Guessed held.party held.name))
      → (collision s.hash w.hashed d.hashes ≡ None → GoesOnSo → Fine s (played s ((es ++ e ∷ []) ++ later)))
      → Fine s (played s (es ++ e ∷ later))
  goes passes collides guesses on = by_answer (collision s.hash w.hashed d.hashes) (guess s w.posted d.posts d.allowed) refl refl
    where
      by_answer : (c : Option (List ℕ × List ℕ)) (u : Option HeldSecret) → collision s.hash w.hashed (pending s w e).hashes ≡ c
          → guess s w.posted (pending s w e).posts (pending s w e).allowed ≡ u → Fine s (played s (es ++ e ∷ later))
      by_answer (Some pair) u ec eu =
          halting (Collided (pair.0) (pair.1)) (ap (λ c. apply w d c (guess s w.posted d.posts d.allowed)) ec) (collides pair ec)
      by_answer None (Some held) ec eu =
          halting (Guessed held.party held.name) ((λ i. apply w d (ec i) (eu i))) (guesses held ec eu)
      by_answer None None ec eu =
          subst (λ xs. Fine s (played s xs)) (append_assoc es (e ∷ []) later) (on ec (further ec eu (passes ec)))
