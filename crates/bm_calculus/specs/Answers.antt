-- What the calls of this crate answer.
use Rattle.std.specs.Borrow.{Bor}
use Rattle.std.specs.Prelude.{Option, Some, None, ◌≡◌, ℕ, ◌<◌, ◌==◌, Bool, List, [], ◌∷◌, if◌then◌else◌}
use Rattle.spec_calculus.specs.declared.step.Owner.{Owner}
use Rattle.spec_calculus.specs.declared.step.Step.{Step}
use Rattle.spec_terms.specs.declared.path.PathStep.{PathStep}
use Rattle.spec_calculus.specs.declared.parts.Deposit.{Deposit}
use Rattle.spec_calculus.specs.declared.parts.ActiveContract.{ActiveContract}
use Rattle.spec_calculus.specs.declared.parts.Advertised.{Advertised}
use Rattle.spec_calculus.specs.Configuration.{Configuration}
use Rattle.spec_calculus.specs.Steps.{fails, effect}
use Rattle.bm_calculus.specs.declared.config.Active.{Active}
use Rattle.bm_calculus.specs.declared.config.StepError.{StepError}
use Rattle.bm_calculus.specs.declared.config.StepError.TheVariants.{NotEnabled, Memory}

-- the step may be taken, and leads from one configuration to the other
pub record Leads (g : Configuration) (step : Step) (h : Configuration) : Type 0 where
  pub holds : fails g step ≡ 0
  pub effect : h ≡ effect g step

-- what an error of a step says of the premise that fails
abbrev pub RefusesFor : ℕ → StepError → Type 0
RefusesFor failed (NotEnabled k) = (0 < k) × (failed ≡ k)
RefusesFor failed Memory = failed ≡ 0

-- owner and value of a deposit
abbrev pub owner_and_value : Option Deposit → Option (Owner × ℕ)
owner_and_value None = None
owner_and_value (Some d) = Some (d.owner, d.value)

-- the same, where the owner is lent
abbrev pub seen : Option (Bor Owner × ℕ) → Option (Owner × ℕ)
seen None = None
seen (Some p) = Some (p.0.now, p.1)

-- place, position and balance of an active contract
abbrev pub parts_of : Option ActiveContract → Option (ℕ × List PathStep × ℕ)
parts_of None = None
parts_of (Some a) = Some (a.contract, a.position, a.balance)

-- the same, where the position is lent
abbrev pub shown : Option Active → Option (ℕ × List PathStep × ℕ)
shown None = None
shown (Some a) = Some (a.contract, a.position.now, a.balance)

-- the bindings that a contract is advertised with, if it is
abbrev pub advertised_with : List Advertised → ℕ → Option (List (List ℕ × ℕ))
advertised_with [] contract = None
advertised_with (a ∷ rest) contract = if a.contract == contract then Some a.bindings else advertised_with rest contract

-- a committed length, and whether its secret is revealed
abbrev pub with_revealed : Bool → Option (Option ℕ) → Option (Option ℕ × Bool)
with_revealed revealed None = None
with_revealed revealed (Some length) = Some (length, revealed)

-- an active contract that stands at its root
abbrev pub root_of : ℕ → ℕ → ℕ → ActiveContract
root_of number contract balance = record { number = number; contract = contract; position = []; balance = balance }
