-- What is claimed of refusals that stay: what is refused so in one world can come in none, whatever bindings or digests it has there.
use Rattle.std.specs.Prelude.{◌≡◌, ℕ, List}
use Rattle.spec_run.specs.declared.event.Event.TheVariants as events
use Rattle.spec_run.specs.declared.outcome.Reason.{Reason}
use Rattle.spec_run.specs.declared.outcome.Reason.TheVariants as reason
use Rattle.spec_run.specs.Setup.{Setup}
use Rattle.spec_run.specs.World.{World}
use Rattle.spec_next.specs.declared.outlook.Ruling.TheVariants as rulings
use Rattle.spec_next.specs.Prospects.{ruling}

-- a party that commits to the contract so can't in any other world
abbrev pub CommitsNever : Setup → World → ℕ → List ℕ → Reason → Type 0
CommitsNever s w k party why =
    (later : World) (digests others : List (List ℕ × List ℕ)) → ruling s w (events.Commit k party digests) ≡ rulings.Cannot why
    → ruling s later (events.Commit k party others) ≡ rulings.Can → ⊥

pub record RefusalsLast : Type 0 where
  -- where nobody is honest, the contract is never advertised
  pub nobody : (s : Setup) (w later : World) (k : ℕ) (bindings others : List (List ℕ × ℕ))
      → ruling s w (events.Advertise k bindings) ≡ rulings.Cannot reason.NoHonest → ruling s later (events.Advertise k others) ≡ rulings.Can → ⊥
  -- where a secret isn't there or hasn't the size of one, its party never commits
  pub missing : (s : Setup) (w : World) (k : ℕ) (party secret : List ℕ) → CommitsNever s w k party (reason.NoSecret secret)
  pub badly_long : (s : Setup) (w : World) (k : ℕ) (party secret : List ℕ) → CommitsNever s w k party (reason.BadSecretLength secret)
