-- Every run is, step by step, a legal run of the calculus, and both agree throughout.
use Rattle.std.proofs.Common.{◌≡◌, ℕ, List, [], ◌∷◌, ◌++◌, map, true, None, refl, sym, ap, ◌∙◌, subst}
use Rattle.spec_calculus.specs.Configuration.{Configuration}
use Rattle.spec_calculus.specs.declared.step.Step.{Step}
use Rattle.spec_calculus.specs.Steps.{after_steps, effect, Legal}
use Rattle.spec_run.specs.declared.event.Event.{Event}
use Rattle.spec_run.specs.declared.outcome.Record.{Record}
use Rattle.spec_run.specs.Setup.{Setup}
use Rattle.spec_data.specs.Messages.{collision}
use Rattle.spec_run.specs.World.{World}
use Rattle.spec_run.specs.Conditions.{IsSetup, IsEvent}
use Rattle.spec_run.specs.Pending.{applied, guess}
use Rattle.spec_run.specs.Secrets.{all_secrets}
use Rattle.spec_run.specs.Event.{pending, opening_world}
use Rattle.spec_run.specs.Steps.{steps_of}
use Rattle.spec_run.specs.Translation.{Turn, record_in, opening_configuration, course, last_or, in_order}
use Rattle.spec_run.specs.Agreement.{Agree}
use Rattle.spec_run.specs.Statements.{IsRun, HoldsFrom, IsSimulated, simulated, SimulationTheorem}
use Rattle.theory_run.proofs.Facts.Secrets.{different_secrets}
use Rattle.theory_run.proofs.Facts.AllSecrets.{all_different}
use Rattle.theory_run.proofs.Facts.KeptSecrets.{Begins}
use Rattle.theory_run.proofs.Facts.Opening.{opening_money, opening_secrets, opening_agrees}
use Rattle.theory_run.proofs.Steps.Followed.{agree_all}
use Rattle.theory_run.proofs.Following.{Keeps, turn_at, run_posts, holds_throughout}
use Rattle.theory_run.specs.KeptRuns.{KeptBooks, KeptRun}
use Rattle.theory_run.proofs.Facts.Bookkeeping.{checks, fits, opening_keeps, keeps_after}
use Rattle.theory_run.specs.Tracks.{Tracks}
use Rattle.theory_run.proofs.Tracking.Tracked.{IsTracked}
use Rattle.theory_run.proofs.Tracking.EveryEvent.{tracked_after}

module _ (s : Setup) (setup : IsSetup s) (z : List (List ℕ)) (g : Configuration) (w : World) (kept : KeptRun s z g w) where
  apart : different_secrets (all_secrets s) ≡ true
  apart = all_different s setup.contracts

  module _ (e : Event) (is : IsEvent s e) (calm : collision s.hash w.hashed (pending s w e).hashes ≡ None)
      (unguessed : guess s w.posted (pending s w e).posts (pending s w e).allowed ≡ None)
      (begins : Begins z (applied w (pending s w e)).posted) where
    abbrev next : World
    next = applied w (pending s w e)

    abbrev there : Configuration
    there = after_steps g (steps_of s z g w (applied w (pending s w e)) e (pending s w e))

    pub followed : IsTracked s z g w e (pending s w e)
    followed =
        tracked_after s setup z apart g w kept.tracks kept.books.book (fits s setup g w kept.books)
        (checks s setup g w kept.books) kept.books.promises.named e is calm unguessed begins

    pub run_after : KeptRun s z (after_steps g (steps_of s z g w (applied w (pending s w e)) e (pending s w e))) (applied w (pending s w e))
    run_after = record { tracks = followed.tracks; books = keeps_after s setup z g w kept.books e is calm }

    pub simulates : IsSimulated s g (turn_at s z g w e)
    simulates = record {
      legal = followed.legal;
      leads = refl;
      agrees = agree_all s there next run_after.books.book z run_after.tracks.money run_after.tracks.secrets run_after.tracks.advertised;
    }

-- at the opening
pub opening_run : (s : Setup) (es : List Event) → IsRun s es → (z : List (List ℕ)) → KeptRun s z (opening_configuration s) (opening_world s)
opening_run s es run z = record {
  tracks = record {
    money = opening_money s run.setup run.opens;
    secrets = opening_secrets s run.setup run.opens z;
    constant = record { parties = refl; honest = refl; contracts = refl };
    advertised = refl;
  };
  books = opening_keeps s run.setup run.opens;
}

abbrev pub kept_run : Setup → List (List ℕ) → List Record → Configuration → World → Type 0
kept_run s z before g w = KeptRun s z g w

-- ---- all steps in order

after-append : (xs ys : List Step) (g : Configuration) → after_steps g (xs ++ ys) ≡ after_steps (after_steps g xs) ys
after-append [] ys g = refl
after-append (x ∷ xs) ys g = after-append xs ys (effect g x)

legal-append : (xs ys : List Step) (g : Configuration) → Legal g xs → Legal (after_steps g xs) ys → Legal g (xs ++ ys)
legal-append [] ys g h k = k
legal-append (x ∷ xs) ys g h k = (h.0, legal-append xs ys (effect g x) h.1 k)

-- the steps of these turns are a legal run that leads to the last of their configurations
pub record InOrder (g : Configuration) (ts : List Turn) : Type 0 where
  pub legal : Legal g (in_order (map (λ t. t.steps) ts))
  pub leads : after_steps g (in_order (map (λ t. t.steps) ts)) ≡ last_or g (map (λ t. t.configuration) ts)

joined : (s : Setup) (ts : List Turn) (before : List Record) (g : Configuration) (w : World) → HoldsFrom (simulated s) before g w ts
    → InOrder g ts
joined s [] before g w h = record { legal = tt; leads = refl }
joined s (t ∷ ts) before g w h =
    let later = joined s ts (before ++ record_in t ∷ []) t.configuration t.world h.1 in
    let there = h.0.leads in
    let steps = in_order (map (λ x. x.steps) ts) in
    record {
      legal = legal-append t.steps steps g h.0.legal (subst (λ c. Legal c steps) (sym there) later.legal);
      leads = after-append t.steps steps g ∙ ap (λ c. after_steps c steps) there ∙ later.leads;
    }

-- configuration and world agree after the last turn
ends_agreed : (s : Setup) (ts : List Turn) (before : List Record) (g : Configuration) (w : World) → Agree s g w
    → HoldsFrom (simulated s) before g w ts
    → Agree s (last_or g (map (λ t. t.configuration) ts)) (last_or w (map (λ t. t.world) ts))
ends_agreed s [] before g w agree h = agree
ends_agreed s (t ∷ ts) before g w agree h = ends_agreed s ts (before ++ record_in t ∷ []) t.configuration t.world h.0.agrees h.1

-- each event is simulated, and keeps what a run keeps
pub keeps_simulated : (s : Setup) (es : List Event) (run : IsRun s es) → Keeps s (simulated s) (kept_run s (run_posts s es)) (run_posts s es)
keeps_simulated s es run = record {
  step = λ before g w e k is calm unguessed begins. (
    simulates s run.setup (run_posts s es) g w k e is calm unguessed begins,
    run_after s run.setup (run_posts s es) g w k e is calm unguessed begins,
  );
}

pub simulation : SimulationTheorem
simulation s es run =
    let z = run_posts s es in
    let agree = opening_agrees s run.setup run.opens in
    let all = holds_throughout s (simulated s) (kept_run s z) es (keeps_simulated s es run) run.events (opening_run s es run z) in
    let steps = joined s (course s es).turns [] (opening_configuration s) (opening_world s) all in
    record {
      opening = agree;
      events = all;
      legal = steps.legal;
      leads = steps.leads;
      agrees = ends_agreed s (course s es).turns [] (opening_configuration s) (opening_world s) agree all;
    }
