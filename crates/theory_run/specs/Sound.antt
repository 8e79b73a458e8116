-- What is claimed of the configurations of every run: a legal run leads to each, and so all holds that the calculus keeps.
use Rattle.std.specs.Prelude.{List}
use Rattle.spec_calculus.specs.declared.step.Step.{Step}
use Rattle.spec_calculus.specs.Configuration.{Configuration}
use Rattle.spec_calculus.specs.Steps.{IsLegalRun}
use Rattle.spec_run.specs.declared.event.Event.{Event}
use Rattle.spec_run.specs.Setup.{Setup}
use Rattle.spec_run.specs.Statements.{Claim, HoldsThroughout, IsRun}
use Rattle.spec_run.specs.Translation.{opening_configuration, last_configuration}
use Rattle.theory_calculus.specs.Money.{IsFunded, IsWithinAllMoney}
use Rattle.theory_calculus.specs.Numbered.{IsNumbered}

-- a legal run leads to the configuration, and what the calculus keeps holds of it
pub record IsSound (s : Setup) (g : Configuration) : Type 0 where
  pub steps : List Step
  pub legal : IsLegalRun (opening_configuration s) steps g
  pub numbered : IsNumbered g
  pub funded : IsFunded g
  pub within : IsWithinAllMoney g

-- the configuration after the event is sound
abbrev pub sound_after : Setup → Claim
sound_after s before g w t = IsSound s t.configuration

-- the configuration is sound at the opening, after each event up to the first halt, and at the end
pub record IsSoundThroughout (s : Setup) (es : List Event) : Type 0 where
  pub opening : IsSound s (opening_configuration s)
  pub events : HoldsThroughout s (sound_after s) es
  pub end : IsSound s (last_configuration s es)

abbrev pub RunsAreSound : Type 0
RunsAreSound = (s : Setup) (es : List Event) → IsRun s es → IsSoundThroughout s es
