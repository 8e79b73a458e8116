-- Steps that are taken one after another, with the lists of authorisations that they leave.
use Rattle.std.specs.Prelude.{List, [], ◌∷◌}
use Rattle.spec_calculus.specs.declared.parts.InitAuthorisation.{InitAuthorisation}
use Rattle.spec_calculus.specs.declared.parts.BranchAuthorisation.{BranchAuthorisation}
use Rattle.spec_calculus.specs.declared.step.Step.{Step}
use Rattle.spec_calculus.specs.declared.step.Step.TheVariants as steps
use Rattle.spec_calculus.specs.Steps.{effect, with_init, with_branch}
use Rattle.bm_translate.specs.declared.running.Running.{Running}

-- the deposits that contracts may take, after a step
abbrev pub inits_after : List InitAuthorisation → Step → List InitAuthorisation
inits_after inits (steps.AuthInit contract party deposit) = with_init inits contract deposit
inits_after inits _ = inits

-- the branches that are authorised, after a step
abbrev pub asked_after : List BranchAuthorisation → Step → List BranchAuthorisation
asked_after asked (steps.AuthBranch party output branch) = with_branch asked party output branch
asked_after asked _ = asked

abbrev pub after_step : Running → Step → Running
after_step r step =
    record r { config = effect r.config step; inits = inits_after r.inits step; asked = asked_after r.asked step }

-- what is known after these steps
abbrev pub after_all : Running → List Step → Running
after_all r [] = r
after_all r (step ∷ rest) = after_all (after_step r step) rest
