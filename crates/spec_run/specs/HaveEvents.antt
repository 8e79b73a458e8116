-- What is claimed of offers with their events: they are all contract steps that may be taken, in order, each beside its event.
use Rattle.std.specs.Prelude.{◌≡◌, ◌↔◌, true, [], ◌∷◌, map, List}
use Rattle.std.specs.List.{Contains}
use Rattle.spec_calculus.specs.declared.step.Step.{Step}
use Rattle.spec_calculus.specs.Configuration.{Configuration}
use Rattle.spec_calculus.specs.Offers as calculus
use Rattle.spec_calculus.specs.Steps.{fails}
use Rattle.spec_calculus.specs.InOrder.{stands_in_order, are_ascending}
use Rattle.spec_calculus.specs.Offered.{is_contract_step, is_offered_before}
use Rattle.spec_run.specs.declared.event.Event.{Event}
use Rattle.spec_run.specs.Setup.{Setup}
use Rattle.spec_run.specs.Offers.{Offer, offers_of, offers}
use Rattle.spec_run.specs.Translation.{opening_configuration, last_configuration}
use Rattle.spec_run.specs.Statements.{Claim, HoldsThroughout, IsRun}

-- ---- any configuration

-- these are the offers of a configuration
pub record HasEvents (g : Configuration) (offered : List Offer) : Type 0 where
  -- the steps are the offers of the calculus, each once, in the same order
  pub steps : map (λ o. o.step) offered ≡ calculus.offers g
  -- each stands beside the event that it is taken by
  pub events : (o : Offer) → Contains offered o → offers_of o.step ≡ o ∷ []
  -- so a step has an offer exactly where a contract begins or goes on by it and no premise fails
  pub complete : (step : Step) → Contains (map (λ o. o.step) offered) step ↔ ((is_contract_step step ≡ true) × (fails g step ≡ 0))
  -- and where the active contracts stand by ascending numbers, each stands before all that come after it
  pub ordered : are_ascending (map (λ a. a.number) g.active) ≡ true
      → stands_in_order is_offered_before (map (λ o. o.step) offered) ≡ true

abbrev pub OffersHaveEvents : Type 0
OffersHaveEvents = (g : Configuration) → HasEvents g (offers g)

-- ---- runs

-- all that may be taken is offered, beginnings by contract and then branches by output and branch, each once and beside its event
pub record OffersAll (g : Configuration) : Type 0 where
  pub events : HasEvents g (offers g)
  pub ordered : stands_in_order is_offered_before (map (λ o. o.step) (offers g)) ≡ true

-- so it is after an event of a run
abbrev pub offers_all : Claim
offers_all before g w t = OffersAll t.configuration

-- at the opening of a run, after every event and at its end
pub record OffersAreComplete (s : Setup) (es : List Event) : Type 0 where
  pub opening : OffersAll (opening_configuration s)
  pub events : HoldsThroughout s offers_all es
  pub end : OffersAll (last_configuration s es)

-- in every run all that may be taken is offered, and nothing else
abbrev pub OffersAreCompleteTheorem : Type 0
OffersAreCompleteTheorem = (s : Setup) (es : List Event) → IsRun s es → OffersAreComplete s es
