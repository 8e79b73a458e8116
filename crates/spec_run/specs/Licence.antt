-- Which steps an event entitles an honest party to.
use Rattle.std.specs.Prelude.{◌≡◌, ℕ, List, [], ◌∷◌, true}
use Rattle.spec_calculus.specs.declared.step.Move.{Move}
use Rattle.spec_calculus.specs.declared.step.Step.{Step}
use Rattle.spec_calculus.specs.declared.step.Step.TheVariants as steps
use Rattle.spec_calculus.specs.Steps.{owned}
use Rattle.spec_run.specs.declared.event.Event.{Event}
use Rattle.spec_run.specs.declared.event.Event.TheVariants as events
use Rattle.spec_run.specs.Setup.{Setup, is_honest}

-- the event is the party's commitment to the contract
abbrev pub IsCommitOf : Event → ℕ → List ℕ → Type 0
IsCommitOf (events.Commit k a digests) contract party = (contract ≡ k) × (party ≡ a)
IsCommitOf _ contract party = ⊥

-- the event is the party's signature of its deposits of the contract
abbrev pub IsInitOf : Event → ℕ → List ℕ → Type 0
IsInitOf (events.Init k a) contract party = (contract ≡ k) × (party ≡ a)
IsInitOf _ contract party = ⊥

-- the event is the party's authorisation of the branch
abbrev pub IsAuthoriseOf : Event → List ℕ → ℕ → ℕ → Type 0
IsAuthoriseOf (events.Authorise a n i) party output branch = (party ≡ a) × (output ≡ n) × (branch ≡ i)
IsAuthoriseOf _ party output branch = ⊥

-- the event is the party's reveal of the secret
abbrev pub IsRevealOf : Event → ℕ → List ℕ → List ℕ → Type 0
IsRevealOf (events.Reveal k a x) contract party secret = (contract ≡ k) × (party ≡ a) × (secret ≡ x)
IsRevealOf _ contract party secret = ⊥

-- the event is the party's gift, with the move's inputs and outputs on its line
abbrev pub IsGiveOf : Event → List ℕ → Move → Type 0
IsGiveOf (events.Give a inputs outputs) party action = (party ≡ a) × (action.inputs ≡ inputs) × (action.outputs ≡ owned outputs)
IsGiveOf _ party action = ⊥

-- a step of an honest party comes only with its own event
abbrev pub IsLicensed : Setup → Event → Step → Type 0
IsLicensed s e (steps.Commit contract party lengths) = is_honest s party ≡ true → IsCommitOf e contract party
IsLicensed s e (steps.AuthInit contract party deposit) = is_honest s party ≡ true → IsInitOf e contract party
IsLicensed s e (steps.AuthBranch party output branch) = is_honest s party ≡ true → IsAuthoriseOf e party output branch
IsLicensed s e (steps.Reveal contract party secret) = is_honest s party ≡ true → IsRevealOf e contract party secret
IsLicensed s e (steps.AuthMove party action) = is_honest s party ≡ true → IsGiveOf e party action
IsLicensed s e (steps.Delay blocks) = Unit {0}
IsLicensed s e (steps.Move action) = Unit {0}
IsLicensed s e (steps.Advertise contract bindings) = Unit {0}
IsLicensed s e (steps.Init contract) = Unit {0}
IsLicensed s e (steps.PutReveal output branch) = Unit {0}
IsLicensed s e (steps.Withdraw output branch) = Unit {0}
IsLicensed s e (steps.Split output branch) = Unit {0}

-- each of these steps is licensed by the event
abbrev pub Licensed : Setup → Event → List Step → Type 0
Licensed s e [] = Unit {0}
Licensed s e (step ∷ rest) = IsLicensed s e step × Licensed s e rest
