-- What every world of a run is: put together.
use Rattle.std.proofs.Common.{◌≡◌, ℕ, zero, suc, ◌+◌, List, [], ◌∷◌, take, true, Some, refl, sym, ap, ◌∙◌, subst, arith}
use Rattle.std.specs.Prelude.{slice_get}
use Rattle.std.specs.List.{flat_map, AllByRecursion}
use Rattle.std.proofs.lemmas.Bool.{and_from}
use Rattle.spec_data.specs.Lists.{is_among}
use Rattle.spec_calculus.specs.Configuration.{Configuration}
use Rattle.spec_run.specs.declared.event.Event.{Event}
use Rattle.spec_run.specs.Setup.{Setup}
use Rattle.spec_run.specs.World.{World}
use Rattle.spec_run.specs.Conditions.{are_all_among, IsEvent}
use Rattle.spec_run.specs.Values.{live_value}
use Rattle.spec_run.specs.Event.{Passed, event, goes_on, opening_strings, opening_world, played_from, played}
use Rattle.spec_run.specs.Pending.{Answer, Went, Halted}
use Rattle.spec_run.specs.Translation.{Turn, turn_of, turns_from, opening_configuration, last_configuration, last_world, world_after}
use Rattle.spec_run.specs.Statements.{IsRun, simulated}
use Rattle.spec_run.proofs.Courses.{last_left}
use Rattle.theory_run.specs.WorldsOfRuns.{HasMessages, HasCommitments, IsWorldOfRun, WorldsOfRuns, WorldsOfTurns}
use Rattle.theory_world.proofs.Hashed.{among_head, among_tail}
use Rattle.theory_run.proofs.Following.{run_posts, kept_at_end}
use Rattle.theory_run.specs.KeptRuns.{KeptRun}
use Rattle.theory_run.proofs.Simulated.{opening_run, kept_run, keeps_simulated}
use Rattle.theory_run.proofs.Worlds.AllPassed.{AllPassed, all_passed}
use Rattle.theory_run.proofs.Worlds.Hashed.{noted-append, hashed_after, posted_after}
use Rattle.theory_run.proofs.Worlds.Own.{own_signatures}
use Rattle.theory_run.proofs.Worlds.Places.{has_places}
use Rattle.theory_run.proofs.Worlds.Committed.{KeptApart, committed_apart}
use Rattle.theory_run.proofs.Worlds.Worth.{opening_worth, worth_after}

every_among : (names known : List (List ℕ)) → ((t : List ℕ) → is_among t names ≡ true → is_among t known ≡ true)
    → are_all_among names known ≡ true
every_among [] known h = refl
every_among (x ∷ names) known h = and_from _ _ (h x (among_head x names)) (every_among names known (λ t i. h t (among_tail t x names i)))

module _ (s : Setup) (es : List Event) (run : IsRun s es) where
  z : List (List ℕ)
  z = run_posts s es

  abbrev w : World
  w = last_world s es

  -- what is kept holds of the last world
  kept : KeptRun s (run_posts s es) (last_configuration s es) (last_world s es)
  kept = (kept_at_end s (simulated s) (kept_run s (run_posts s es)) es (keeps_simulated s es run) run.events (opening_run s es run (run_posts s es))).holds

  -- it is the world that the events left
  left : last_world s es ≡ world_after (opening_world s) (played s es).passed
  left = last_left s (run_posts s es) (played s es).passed (opening_configuration s) (opening_world s)

  passed : AllPassed s (opening_world s) (played s es).passed
  passed = all_passed s es (opening_world s)

  messages : HasMessages s es (last_world s es)
  messages = record {
    noted =
        ap (λ (v : World). v.hashed) left ∙ hashed_after s (played s es).passed (opening_world s) passed
        ∙ sym (noted-append [] (opening_strings s) (flat_map (λ p. p.pending.hashes) (played s es).passed));
    different = kept.books.clear.one;
    posted = ap (λ (v : World). v.posted) left ∙ posted_after s (played s es).passed (opening_world s) passed;
    heard = every_among w.posted w.hashed kept.tracks.secrets.heard;
  }

  commitments : HasCommitments s (last_world s es)
  commitments =
      let first : KeptApart s (opening_world s).promises = record { different = refl; own = tt } in
      let last = committed_apart s run.setup (played s es).passed (opening_world s) passed first in
      let here : KeptApart s w.promises = subst (λ (v : World). KeptApart s v.promises) (sym left) last in
      record { different = here.different; own = here.own }

  pub world_of_run : IsWorldOfRun s es (last_world s es)
  world_of_run = record {
    messages = messages;
    signatures = record {
      own = λ l x fine heard. own_signatures s es run kept.books.clear l x fine heard;
      labelled = λ key x h.
          let r = kept.books.labels.signed key x h in
          record { label = r.label; fine = r.fine; heard = r.heard; is = r.is };
    };
    places = has_places s (last_configuration s es) (last_world s es) kept.books.book;
    commitments = commitments;
    money =
        let a = worth_after s (played s es).passed (opening_world s) passed in
        let b = opening_worth s run.setup in
        let c = ap live_value left in
        omega (arith, a, b, c);
  }

-- ---- the turns

taken_events : (s : Setup) (k : ℕ) (es : List Event) → AllByRecursion (IsEvent s) es → AllByRecursion (IsEvent s) (take k es)
taken_events s zero es h = tt
taken_events s (suc k) [] h = tt
taken_events s (suc k) (e ∷ es) h = (h.0, taken_events s k es h.1)

-- the first events of a run are played as the first of all
taken_passed : (s : Setup) (k : ℕ) (es : List Event) (w : World) → (played_from s w (take k es)).passed ≡ take k (played_from s w es).passed
taken_passed s zero es w = refl
taken_passed s (suc k) [] w = refl
taken_passed s (suc k) (e ∷ es) w = by_answer (event s w e) (taken_passed s k es)
  where
    by_answer : (a : Answer) → ((next : World) → (played_from s next (take k es)).passed ≡ take k (played_from s next es).passed)
        → (goes_on e a (λ next. played_from s next (take k es))).passed ≡ take (suc k) (goes_on e a (λ next. played_from s next es)).passed
    by_answer (Halted halt) ih = refl
    by_answer (Went d next) ih = ap (λ ps. record { event = e; pending = d; world = next } ∷ ps) (ih next)

-- a turn's world is left by the events up to it
turn_left : (s : Setup) (strings : List (List ℕ)) (ps : List Passed) (g : Configuration) (w : World) (n : ℕ) (t : Turn)
    → slice_get (turns_from s strings g w ps) n ≡ Some t → world_after w (take (suc n) ps) ≡ t.world
turn_left s strings [] g w n t h = cc
turn_left s strings (p ∷ ps) g w zero t h = let e : turn_of s strings g w p ≡ t = cc in ap (λ (x : Turn). x.world) e
turn_left s strings (p ∷ ps) g w (suc n) t h = turn_left s strings ps (turn_of s strings g w p).configuration p.world n t h

pub worlds_of_turns : WorldsOfTurns
worlds_of_turns s es run n t h =
    let k : n + 1 ≡ suc n = omega arith in
    let prefix : IsRun s (take (suc n) es) =
    record { setup = run.setup; opens = run.opens; events = taken_events s (suc n) es run.events } in
    let same = left s (take (suc n) es) prefix ∙ ap (world_after (opening_world s)) (taken_passed s (suc n) es (opening_world s))
    ∙ turn_left s (run_posts s es) (played s es).passed (opening_configuration s) (opening_world s) n t h in
    rw k (subst (IsWorldOfRun s (take (suc n) es)) same (world_of_run s (take (suc n) es) prefix))

pub worlds_of_runs : WorldsOfRuns
worlds_of_runs s es run = world_of_run s es run
