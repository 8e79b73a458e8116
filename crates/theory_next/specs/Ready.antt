-- What is claimed of an event for which nothing is missing: it can come, unless it halts the run.
use Rattle.std.specs.Prelude.{◌≡◌, ◌⊎◌, ℕ, List, [], true, is_some}
use Rattle.spec_calculus.specs.Beginning.{contract_at}
use Rattle.spec_calculus.specs.Steps.{branch_at}
use Rattle.spec_run.specs.declared.event.Event.{Event}
use Rattle.spec_run.specs.declared.event.Event.TheVariants as events
use Rattle.spec_run.specs.Setup.{Setup}
use Rattle.spec_run.specs.World.{World}
use Rattle.spec_run.specs.Translation.{last_configuration, last_world}
use Rattle.spec_run.specs.Statements.{IsRun}
use Rattle.spec_next.specs.declared.outlook.Ruling.TheVariants as rulings
use Rattle.spec_next.specs.Prospects.{ruling}
use Rattle.spec_next.specs.Requirements.{requirements_of}

-- the event can come, unless it halts the run
abbrev pub CanUnlessHalts : Setup → World → Event → Type 0
CanUnlessHalts s w e = (ruling s w e ≡ rulings.Can) ⊎ (ruling s w e ≡ rulings.Halts)

-- after a run a contract begins, and a branch of an active contract is taken, wherever nothing is missing; so of what can't come
-- something is always missing
pub record ReadyComes (s : Setup) (es : List Event) : Type 0 where
  pub beginnings : (k : ℕ) → is_some (contract_at (last_configuration s es).contracts k) ≡ true
      → requirements_of s (last_configuration s es) (last_world s es) (events.FireInit k) ≡ []
      → CanUnlessHalts s (last_world s es) (events.FireInit k)
  pub branches : (n i : ℕ) → is_some (branch_at (last_configuration s es) n i) ≡ true
      → requirements_of s (last_configuration s es) (last_world s es) (events.Fire n i) ≡ []
      → CanUnlessHalts s (last_world s es) (events.Fire n i)

abbrev pub ReadyComesTheorem : Type 0
ReadyComesTheorem = (s : Setup) (es : List Event) → IsRun s es → ReadyComes s es
