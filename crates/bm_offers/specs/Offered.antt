-- What is offered of a list of steps.
use Rattle.std.specs.Prelude.{List, [], ◌∷◌, Option, Some, None, filter}
use Rattle.std.specs.List.{flat_map}
use Rattle.spec_calculus.specs.declared.step.Step.{Step}
use Rattle.spec_calculus.specs.Configuration.{Configuration}
use Rattle.spec_calculus.specs.Offers.{is_enabled}
use Rattle.spec_run.specs.Offers.{Offer, offers_of}

-- those of these steps that may be taken, with their events
abbrev pub offered : Configuration → List Step → List Offer
offered g steps = flat_map offers_of (filter (λ s. is_enabled g s) steps)

-- the step alone, where there is one
abbrev pub listed : Option Step → List Step
listed None = []
listed (Some step) = step ∷ []
