-- The offers: the enabled steps by which contracts begin or go on, in their order.
use Rattle.std.specs.Prelude.{ℕ, ◌+◌, ◌==◌, Bool, List, [], ◌∷◌, ◌++◌, Option, Some, None, filter}
use Rattle.spec_terms.specs.Advert.{Advert}
use Rattle.spec_terms.specs.Core.{core}
use Rattle.spec_terms.specs.Paths.{contract_under}
use Rattle.spec_terms.specs.Term.{Guarded, auth, after, put_reveal, withdraw, split, Contract, branches}
use Rattle.spec_terms.specs.declared.path.PathStep.{PathStep}
use Rattle.spec_calculus.specs.declared.step.Step.{Step}
use Rattle.spec_calculus.specs.declared.step.Step.TheVariants.{Init, PutReveal, Withdraw, Split}
use Rattle.spec_calculus.specs.declared.parts.ActiveContract.{ActiveContract}
use Rattle.spec_calculus.specs.Configuration.{Configuration}
use Rattle.spec_calculus.specs.Branches.{advert_of}
use Rattle.spec_calculus.specs.Steps.{fails}

-- whether no premise of the step fails
abbrev pub is_enabled : Configuration → Step → Bool
is_enabled g step = fails g step == 0

-- the beginning of each contract, numbered from k on
abbrev pub beginnings : ℕ → List Advert → List Step
beginnings k [] = []
beginnings k (c ∷ cs) = Init k ∷ beginnings (k + 1) cs

-- the step that takes the branch with this core
abbrev pub taking : ℕ → ℕ → Guarded → List Step
taking output branch (put_reveal puts reveals test next) = PutReveal output branch ∷ []
taking output branch (withdraw party) = Withdraw output branch ∷ []
taking output branch (split parts) = Split output branch ∷ []
taking output branch (auth party body) = []
taking output branch (after height body) = []

-- the steps that take these branches, numbered from i on
abbrev pub takings : ℕ → ℕ → List Guarded → List Step
takings output i [] = []
takings output i (b ∷ bs) = taking output i (core b) ++ takings output (i + 1) bs

-- the branches of a choice, none without one
abbrev pub branches_at : Option Contract → List Guarded
branches_at None = []
branches_at (Some choice) = branches choice

-- the branches at a position of a contract
abbrev pub branches_in : Option Advert → List PathStep → List Guarded
branches_in None position = []
branches_in (Some advert) position = branches_at (contract_under advert.root position)

-- the branches of an active contract
abbrev pub branches_of : List Advert → ActiveContract → List Guarded
branches_of contracts a = branches_in (advert_of contracts (Some a)) a.position

-- the steps that take branches of these active contracts
abbrev pub all_takings : List Advert → List ActiveContract → List Step
all_takings contracts [] = []
all_takings contracts (a ∷ rest) = takings a.number 0 (branches_of contracts a) ++ all_takings contracts rest

-- the enabled steps by which contracts begin or go on: beginnings by contract, then the others by output and branch
abbrev pub offers : Configuration → List Step
offers g = filter (λ s. is_enabled g s) (beginnings 0 g.contracts ++ all_takings g.contracts g.active)
