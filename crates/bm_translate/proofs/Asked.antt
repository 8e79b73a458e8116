-- The steps by which a contract begins and goes on are those of the definitions.
use Rattle.std.proofs.Common.{◌≡◌, ℕ, List, [], ◌∷◌, ◌++◌, Bool, Some, refl, ap, ◌∙◌}
use Rattle.std.specs.Prelude.{◌&&◌}
use Rattle.std.specs.List.{filter}
use Rattle.spec_data.specs.Lists.{look_up}
use Rattle.spec_terms.specs.Term.{Guarded}
use Rattle.spec_terms.specs.Precondition.{Holding, persistent}
use Rattle.spec_terms.specs.declared.pre.Pre.{Pre}
use Rattle.spec_calculus.specs.declared.parts.InitAuthorisation.{InitAuthorisation}
use Rattle.spec_calculus.specs.declared.parts.BranchAuthorisation.{BranchAuthorisation}
use Rattle.spec_calculus.specs.declared.step.Step.{Step}
use Rattle.spec_calculus.specs.declared.step.Step.TheVariants as steps
use Rattle.spec_calculus.specs.Configuration.{Configuration}
use Rattle.spec_calculus.specs.Beginning.{bindings_of, is_there}
use Rattle.spec_run.specs.Setup.{Setup, pre_at}
use Rattle.spec_run.specs.World.{World, bindings_at}
use Rattle.spec_run.specs.Steps.{auth_inits, is_of_party, is_bound_live, branch_steps, begin_steps, init_steps}
use Rattle.theory_run.specs.Tracks.{AgreeOnMoney}
use Rattle.theory_run.proofs.Steps.Beginnings.{bindings_same, there_same}
use Rattle.bm_translate.specs.Asking.{init_missing, init_allowed, taking}

-- what is missing and the beginning
pub begins : (s : Setup) (g : Configuration) (contract : ℕ) (pre : List Pre) (authorised : List InitAuthorisation) (made : List Step)
    → pre_at s contract ≡ pre → g.init_authorised ≡ authorised → made ≡ init_missing authorised contract pre ++ steps.Init contract ∷ []
    → made ≡ begin_steps s g contract
begins s g contract pre authorised made e f h = rw (h, ← e, ← f) refl

-- those who are awaited and the branch
pub goes_on : (g : Configuration) (people : List (List ℕ)) (output branch : ℕ) (b : Guarded) (authorised : List BranchAuthorisation)
    → g.branch_authorised ≡ authorised → taking authorised people output branch b ≡ branch_steps g people output branch (Some b)
goes_on g people output branch b authorised e = rw (← e) refl

filter_same : {X : Type 0} (f g : X → Bool) (xs : List X) → ((x : X) → f x ≡ g x) → filter f xs ≡ filter g xs
filter_same f g [] h = refl
filter_same f g (x ∷ xs) h = rw (h x, filter_same f g xs h) refl

module _ (s : Setup) (g : Configuration) (w : World) (money : AgreeOnMoney s g w) (advertised : g.advertised ≡ w.advertised) where
  bound_same : (contract : ℕ) (d : List ℕ × Holding)
      → is_there g.deposits (look_up (d.0) (bindings_of g.advertised contract)) ≡ is_bound_live w contract d
  bound_same contract d =
      ap (λ bs. is_there g.deposits (look_up (d.0) bs)) (ap (λ xs. bindings_of xs contract) advertised ∙ bindings_same w.advertised contract)
      ∙ there_same s g w money (look_up (d.0) (bindings_at w.advertised contract))

  -- the party's deposits that are bound to live ones
  pub allows : (contract : ℕ) (party : List ℕ) (pre : List Pre) → pre_at s contract ≡ pre
      → init_allowed g.deposits (bindings_of g.advertised contract) contract party pre ≡ init_steps s w contract party
  allows contract party pre e =
      rw (← e)
      (ap (auth_inits contract)
      (filter_same (λ d. is_of_party party d && is_there g.deposits (look_up (d.0) (bindings_of g.advertised contract)))
      (λ d. is_of_party party d && is_bound_live w contract d) (persistent (pre_at s contract))
      (λ d. ap (λ b. is_of_party party d && b) (bound_same contract d))))
