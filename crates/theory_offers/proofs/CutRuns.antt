-- But for the lengths that are committed, the configurations of a run don't depend on the strings that are posted later.
use Rattle.std.proofs.Common.{◌≡◌, ℕ, List, ◌++◌, map, Option, Some, None, refl, ap, ◌∙◌}
use Rattle.spec_bitcoin.specs.declared.tx.Tx.{Tx}
use Rattle.spec_calculus.specs.declared.parts.Committed.{Committed}
use Rattle.spec_calculus.specs.Configuration.{Configuration}
use Rattle.spec_run.specs.declared.event.Event.{Event}
use Rattle.spec_run.specs.declared.event.Event.TheVariants as events
use Rattle.spec_run.specs.declared.outcome.Outcome.{Outcome}
use Rattle.spec_run.specs.declared.outcome.Outcome.TheVariants as outcomes
use Rattle.spec_run.specs.Setup.{Setup}
use Rattle.spec_run.specs.World.{World}
use Rattle.spec_run.specs.Event.{Passed}
use Rattle.spec_run.specs.Ledger.{Kind, Begins, Takes, Moves, kind_of}
use Rattle.spec_run.specs.Steps.{reveals, kind_steps, accepted_steps, done_steps, outcome_steps, steps_of}
use Rattle.spec_run.specs.Translation.{turn_of}
use Rattle.theory_offers.proofs.Blanked.{blank, fill, unmeasured, after-measured}

-- ---- steps by other strings and other commitments

module _ (s : Setup) (y z : List (List ℕ)) (g : Configuration) (cs : List Committed) (w next : World) where
  abbrev there : Configuration
  there = record g { committed = cs }

  kind_same : (tx : Tx) (spent : List ℕ) (kind : Kind)
      → map unmeasured (reveals s w next ++ kind_steps s g w tx spent kind)
      ≡ map unmeasured (reveals s w next ++ kind_steps s there w tx spent kind)
  kind_same tx spent (Begins contract) = refl
  kind_same tx spent (Takes held output branch) = refl
  kind_same tx spent Moves = refl

  accepted_same : (spent : List ℕ) (tx : Option Tx)
      → map unmeasured (accepted_steps s g w next spent tx) ≡ map unmeasured (accepted_steps s there w next spent tx)
  accepted_same spent None = refl
  accepted_same spent (Some tx) = kind_same tx spent (kind_of s w tx spent)

  done_same : (e : Event) → map unmeasured (done_steps s y w next e) ≡ map unmeasured (done_steps s z w next e)
  done_same (events.Advertise contract bindings) = refl
  done_same (events.Commit contract party digests) = refl
  done_same (events.Endorse contract party) = refl
  done_same (events.Init contract party) = refl
  done_same (events.Authorise party output branch) = refl
  done_same (events.Reveal contract party secret) = refl
  done_same (events.Post bytes) = refl
  done_same (events.Sign party label digest) = refl
  done_same (events.Give party inputs outputs) = refl
  done_same (events.Append bytes) = refl
  done_same (events.FireInit contract) = refl
  done_same (events.Fire output branch) = refl
  done_same (events.Mine blocks) = refl

  outcome_same : (e : Event) (tx : Option Tx) (o : Outcome)
      → map unmeasured (outcome_steps s y g w next e tx o) ≡ map unmeasured (outcome_steps s z there w next e tx o)
  outcome_same e tx outcomes.Done = done_same e
  outcome_same e tx (outcomes.Accepted spent made lock) = accepted_same spent tx
  outcome_same e tx (outcomes.Refused reason) = refl

-- the configuration after an event, but for what is committed, is the same whatever strings the run posts
pub turn_same : (s : Setup) (y z : List (List ℕ)) (g h : Configuration) (w : World) (p : Passed) → blank g ≡ blank h
    → blank (turn_of s y g w p).configuration ≡ blank (turn_of s z h w p).configuration
turn_same s y z g h w p e =
    let same : map unmeasured (steps_of s y g w p.world p.event p.pending) ≡ map unmeasured (steps_of s z h w p.world p.event p.pending) =
    outcome_same s y z g h.committed w p.world p.event p.pending.tx p.pending.outcome
    ∙ ap (λ c. map unmeasured (steps_of s z c w p.world p.event p.pending)) (fill g h e) in
    after-measured (steps_of s y g w p.world p.event p.pending) (steps_of s z h w p.world p.event p.pending) g h same e
