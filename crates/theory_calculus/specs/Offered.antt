-- What is claimed of the offers of a configuration: which steps stand among them, and in which order.
use Rattle.std.specs.Prelude.{◌≡◌, ◌↔◌, true, map}
use Rattle.std.specs.List.{Contains}
use Rattle.spec_calculus.specs.declared.step.Step.{Step}
use Rattle.spec_calculus.specs.Configuration.{Configuration}
use Rattle.spec_calculus.specs.Steps.{fails}
use Rattle.spec_calculus.specs.Offers.{offers}
use Rattle.spec_calculus.specs.InOrder.{stands_in_order, are_ascending}
use Rattle.spec_calculus.specs.Offered.{is_contract_step, is_offered_before}

-- the offers are exactly the steps by which a contract begins or goes on and of which no premise fails
abbrev pub EveryEnabledIsOffered : Type 0
EveryEnabledIsOffered = (g : Configuration) (step : Step) → Contains (offers g) step ↔ ((is_contract_step step ≡ true) × (fails g step ≡ 0))

-- where the active contracts stand by ascending numbers, each offer stands before all that come after it, and so once
abbrev pub OffersStandInOrder : Type 0
OffersStandInOrder =
    (g : Configuration) → are_ascending (map (λ a. a.number) g.active) ≡ true → stands_in_order is_offered_before (offers g) ≡ true
