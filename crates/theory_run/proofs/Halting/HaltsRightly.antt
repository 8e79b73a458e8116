-- Each event of a run goes on where nothing halts it, and the run halts only where something does.
use Rattle.std.proofs.Common.{◌≡◌, ℕ, List, [], ◌∷◌, map, Option, Some, None, refl, sym, ap, subst}
use Rattle.spec_calculus.specs.Configuration.{Configuration}
use Rattle.spec_run.specs.declared.event.Event.{Event}
use Rattle.spec_run.specs.declared.header.HeldSecret.{HeldSecret}
use Rattle.spec_run.specs.declared.outcome.Record.{Record}
use Rattle.spec_run.specs.Setup.{Setup}
use Rattle.spec_data.specs.Messages.{collision}
use Rattle.spec_run.specs.World.{World}
use Rattle.spec_run.specs.Pending.{Halt, guess, applied, apply}
use Rattle.spec_run.specs.Event.{Passed, Progress, pending, goes_on, opening_strings, opening_world, opening_collision, played_from, played}
use Rattle.spec_run.specs.Translation.{turn_of, turns_from, world_after, course, opening_configuration, first_halt}
use Rattle.spec_run.specs.Halting.{OpeningIs}
use Rattle.spec_run.specs.Statements.{IsRun, EndsAs, went_on, HaltsRightly, HaltsTheorem}
use Rattle.spec_run.proofs.Courses.{passing, last_left}
use Rattle.theory_world.specs.KeptApart.{NoCollision}
use Rattle.theory_world.proofs.Hashed.{no_collision_none, no_collision}
use Rattle.theory_run.proofs.Facts.Opening.{clear}
use Rattle.theory_run.proofs.Following.{Keeps, run_posts, holds_throughout}
use Rattle.theory_run.proofs.Halting.Halts.{all_noted, calm_is, collides, none_away, guesses}

-- no messages of the world collision
abbrev kept_clear : Setup → List Record → Configuration → World → Type 0
kept_clear s before g w = NoCollision s.hash w.hashed

keeps_clear : (s : Setup) (z : List (List ℕ)) → Keeps s (went_on s) (kept_clear s) z
keeps_clear s z = record {
  step = λ before g w e fresh is calm unguessed begins. (
    record {
      outcome = refl;
      tx = refl;
      world = refl;
      halts =
          record { calm = calm_is s.hash w.hashed (pending s w e).hashes fresh calm; unguessed = none_away s w e s.header.secrets unguessed };
      hashed = all_noted w.hashed (pending s w e).hashes;
    },
    no_collision s.hash w.hashed (pending s w e).hashes fresh calm,
  );
}

-- ---- the end

ends_later : (s : Setup) (es : List Event) (w : World) (x : Passed) (ps : List Passed) (h : Option (Event × Halt))
    → EndsAs s es (map (λ p. p.event) ps) (world_after x.world ps) h
    → EndsAs s (x.event ∷ es) (map (λ p. p.event) (x ∷ ps)) (world_after w (x ∷ ps)) h
ends_later s es w x ps None end = ap (λ ys. x.event ∷ ys) end
ends_later s es w x ps (Some h) end = ((end.0.0, ap (λ ys. x.event ∷ ys) end.0.1), end.1)

abbrev EndsAfter : Setup → List Event → World → Progress → Type 0
EndsAfter s es w p = EndsAs s es (map (λ x. x.event) p.passed) (world_after w p.passed) p.halt

-- all events are played, or those before one that halts with what is there
ends : (s : Setup) (es : List Event) (w : World) → NoCollision s.hash w.hashed → EndsAfter s es w (played_from s w es)
ends s [] w fresh = refl
ends s (e ∷ es) w fresh =
    let d = pending s w e in
    by_answer (collision s.hash w.hashed d.hashes) (guess s w.posted d.posts d.allowed) refl refl (ends s es)
  where
    by_answer : (c : Option (List ℕ × List ℕ)) (u : Option HeldSecret) → collision s.hash w.hashed (pending s w e).hashes ≡ c
        → guess s w.posted (pending s w e).posts (pending s w e).allowed ≡ u
        → ((next : World) → NoCollision s.hash next.hashed → EndsAfter s es next (played_from s next es))
        → EndsAfter s (e ∷ es) w (goes_on e (apply w (pending s w e) c u) (λ next. played_from s next es))
    by_answer (Some pair) u ec eu ih = ((es, refl), collides s.hash w.hashed (pending s w e).hashes pair.0 pair.1 fresh ec)
    by_answer None (Some held) ec eu ih =
        ((es, refl), (calm_is s.hash w.hashed (pending s w e).hashes fresh ec, guesses s w e s.header.secrets held eu))
    by_answer None None ec eu ih =
        let next = applied w (pending s w e) in
        let later = played_from s next es in
        ends_later s es w (passing s w e) later.passed later.halt (ih next (no_collision s.hash w.hashed (pending s w e).hashes fresh ec))

-- the turns have the events that went on
events_left : (s : Setup) (z : List (List ℕ)) (ps : List Passed) (g : Configuration) (w : World)
    → map (λ t. t.event) (turns_from s z g w ps) ≡ map (λ p. p.event) ps
events_left s z [] g w = refl
events_left s z (p ∷ ps) g w = λ i. p.event ∷ events_left s z ps (turn_of s z g w p).configuration p.world i

rightly : (s : Setup) (es : List Event) → IsRun s es → HaltsRightly s es
rightly s es run =
    let z = run_posts s es in
    let ps = (played s es).passed in
    let g = opening_configuration s in
    let w = opening_world s in
    let none = clear s run.setup run.opens in
    record {
      events = holds_throughout s (went_on s) (kept_clear s) es (keeps_clear s z) run.events none;
      ends = subst (λ x. EndsAs s es (map (λ t. t.event) (course s es).turns) x (first_halt s es)) (sym (last_left s z ps g w))
          (subst (λ xs. EndsAs s es xs (world_after w ps) (first_halt s es)) (sym (events_left s z ps g w)) (ends s es w none));
    }

opening_is : (s : Setup) (o : Option (List ℕ × List ℕ)) → opening_collision s ≡ o → OpeningIs s o
opening_is s None h = calm_is s.hash [] (opening_strings s) (no_collision_none s.hash) h
opening_is s (Some pair) h = collides s.hash [] (opening_strings s) pair.0 pair.1 (no_collision_none s.hash) h

pub halts : HaltsTheorem
halts = record { opening = λ s. opening_is s (opening_collision s) refl; runs = rightly }
