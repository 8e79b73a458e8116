-- What is claimed of licences: the one event by which an honest party may authorise a step.
use Rattle.std.specs.Prelude.{◌≡◌, ℕ, List, true, Option}
use Rattle.spec_calculus.specs.declared.step.Move.{Move}
use Rattle.spec_calculus.specs.declared.step.Step.TheVariants as steps
use Rattle.spec_calculus.specs.Steps.{owned}
use Rattle.spec_run.specs.declared.event.Event.{Event}
use Rattle.spec_run.specs.declared.event.Event.TheVariants as events
use Rattle.spec_run.specs.Setup.{Setup, is_honest}
use Rattle.spec_run.specs.Licence.{IsLicensed}

-- an event that licenses a step of an honest party is the party's own, and names what the step does
pub record OnlyOwnEvents : Type 0 where
  -- it commits to a contract by its commitment to that contract
  pub commits : (s : Setup) (e : Event) (contract : ℕ) (party : List ℕ) (lengths : List (List ℕ × Option ℕ)) → is_honest s party ≡ true
      → IsLicensed s e (steps.Commit contract party lengths)
      → (digests : List (List ℕ × List ℕ)) × (e ≡ events.Commit contract party digests)
  -- it lets a contract take a deposit by its signature of that contract's beginning
  pub agrees : (s : Setup) (e : Event) (contract : ℕ) (party deposit : List ℕ) → is_honest s party ≡ true
      → IsLicensed s e (steps.AuthInit contract party deposit) → e ≡ events.Init contract party
  -- it authorises a branch of an output by its authorisation of that branch of that output
  pub authorises : (s : Setup) (e : Event) (party : List ℕ) (output branch : ℕ) → is_honest s party ≡ true
      → IsLicensed s e (steps.AuthBranch party output branch) → e ≡ events.Authorise party output branch
  -- it reveals a secret by its reveal of that secret
  pub reveals : (s : Setup) (e : Event) (contract : ℕ) (party secret : List ℕ) → is_honest s party ≡ true
      → IsLicensed s e (steps.Reveal contract party secret) → e ≡ events.Reveal contract party secret
  -- it authorises a move by its gift of those inputs to those outputs
  pub gives : (s : Setup) (e : Event) (party : List ℕ) (action : Move) → is_honest s party ≡ true
      → IsLicensed s e (steps.AuthMove party action)
      → (outputs : List (List ℕ × ℕ)) × (e ≡ events.Give party action.inputs outputs) × (action.outputs ≡ owned outputs)
