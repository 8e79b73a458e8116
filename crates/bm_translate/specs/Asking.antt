-- Who is still to agree before a contract begins or goes on.
use Rattle.std.specs.Prelude.{ℕ, List, ◌++◌, Bool, not, ◌&&◌, filter, map}
use Rattle.spec_data.specs.Lists.{look_up}
use Rattle.spec_terms.specs.Term.{Guarded}
use Rattle.spec_terms.specs.Core.{core, is_asked}
use Rattle.spec_terms.specs.Precondition.{persistent}
use Rattle.spec_terms.specs.declared.pre.Pre.{Pre}
use Rattle.spec_calculus.specs.declared.parts.Deposit.{Deposit}
use Rattle.spec_calculus.specs.declared.parts.InitAuthorisation.{InitAuthorisation}
use Rattle.spec_calculus.specs.declared.parts.BranchAuthorisation.{BranchAuthorisation}
use Rattle.spec_calculus.specs.declared.step.Step.{Step}
use Rattle.spec_calculus.specs.Beginning.{is_init_authorised, is_there}
use Rattle.spec_calculus.specs.Branches.{has_branch_authorised}
use Rattle.spec_run.specs.Steps.{auth_inits, auth_branch, core_step, is_of_party}

-- the authorisations of the persistent deposits that the contract may not take yet
abbrev pub init_missing : List InitAuthorisation → ℕ → List Pre → List Step
init_missing authorised contract pre =
    auth_inits contract (filter (λ d. not (is_init_authorised authorised contract d.0)) (persistent pre))

-- the authorisations of the party's persistent deposits that are bound to live ones
abbrev pub init_allowed : List Deposit → List (List ℕ × ℕ) → ℕ → List ℕ → List Pre → List Step
init_allowed deposits bindings contract party pre =
    auth_inits contract (filter (λ d. is_of_party party d && is_there deposits (look_up d.0 bindings)) (persistent pre))

-- whether the branch asks the party, and the party hasn't authorised it
abbrev pub awaited : List BranchAuthorisation → ℕ → ℕ → Guarded → List ℕ → Bool
awaited authorised output branch b party = is_asked b party && not (has_branch_authorised authorised output branch party)

-- those who are awaited authorise the branch, and then it is taken
abbrev pub taking : List BranchAuthorisation → List (List ℕ) → ℕ → ℕ → Guarded → List Step
taking authorised people output branch b =
    map (auth_branch output branch) (filter (awaited authorised output branch b) people) ++ core_step output branch (core b)
