-- The contract steps that may be taken now, with the event that each is taken by.
use Rattle.std.specs.Prelude.{ℕ, List, [], ◌∷◌}
use Rattle.std.specs.List.{flat_map}
use Rattle.spec_calculus.specs.declared.step.Step.{Step}
use Rattle.spec_calculus.specs.declared.step.Step.TheVariants as steps
use Rattle.spec_calculus.specs.Configuration.{Configuration}
use Rattle.spec_calculus.specs.Offers as calculus
use Rattle.spec_run.specs.declared.event.Event.{Event}
use Rattle.spec_run.specs.declared.event.Event.TheVariants as events

-- a contract step and the event that it is taken by
pub record Offer : Type 0 where
  pub step : Step
  pub event : Event

-- a beginning and a branch with their events, and nothing for other steps
abbrev pub offers_of : Step → List Offer
offers_of (steps.Init contract) = record { step = steps.Init contract; event = events.FireInit contract } ∷ []
offers_of (steps.PutReveal output branch) = record { step = steps.PutReveal output branch; event = events.Fire output branch } ∷ []
offers_of (steps.Withdraw output branch) = record { step = steps.Withdraw output branch; event = events.Fire output branch } ∷ []
offers_of (steps.Split output branch) = record { step = steps.Split output branch; event = events.Fire output branch } ∷ []
offers_of (steps.Delay blocks) = []
offers_of (steps.AuthMove party action) = []
offers_of (steps.Move action) = []
offers_of (steps.Advertise contract bindings) = []
offers_of (steps.Commit contract party lengths) = []
offers_of (steps.AuthInit contract party deposit) = []
offers_of (steps.Reveal contract party secret) = []
offers_of (steps.AuthBranch party output branch) = []

-- all enabled contract steps with their events: beginnings by contract, and then branches by output and branch
abbrev pub offers : Configuration → List Offer
offers g = flat_map offers_of (calculus.offers g)
