-- The script theorem of a position of a checked contract, by the key plan.
use Rattle.std.proofs.Common.{◌≡◌, ℕ, List, Bool, true}
use Rattle.std.specs.List.{list_all}
use Rattle.spec_terms.specs.Term.{Contract}
use Rattle.spec_terms.specs.declared.path.PathStep.{PathStep}
use Rattle.spec_compiler.specs.Keyed.Keys.{by_plan}
use Rattle.spec_compiler.specs.Instance.{Instance, position_demands}
use Rattle.spec_compiler.specs.Statements.{is_short, IsHash, IsCompiled, OpensExactly, HasCost}
use Rattle.theory_script.specs.Limits.{MeetsNoLimit}
use Rattle.theory_script.proofs.KeyPlan.{plan_keys}
use Rattle.theory_script.proofs.Scripts.Demanded.{IsChecked}
use Rattle.theory_script.proofs.Keyed.Opened as keyed

module _ (hash : List ℕ → List ℕ) (s : Instance) (position : List PathStep) where
  pub is_checked : (choice : Contract) → IsHash hash → IsCompiled s position choice → IsChecked (position_demands hash s position choice)
  is_checked choice is_hash = keyed.is_checked hash by_plan s position choice (plan_keys hash is_hash)

  pub opens_exactly : (valid : List ℕ → List ℕ → Bool) (choice : Contract) (stack : List (List ℕ)) → IsHash hash
      → IsCompiled s position choice → list_all is_short stack ≡ true → OpensExactly hash valid s position choice stack
  opens_exactly valid choice stack is_hash = keyed.opens_exactly hash by_plan s position valid choice stack (plan_keys hash is_hash)

  pub cost_is : (choice : Contract) → IsHash hash → IsCompiled s position choice → HasCost hash s position choice
  cost_is choice is_hash = keyed.cost_is hash by_plan s position choice (plan_keys hash is_hash)

  pub no_limit_met : (choice : Contract) → IsHash hash → IsCompiled s position choice → MeetsNoLimit hash s position choice
  no_limit_met choice is_hash = keyed.no_limit_met hash by_plan s position choice (plan_keys hash is_hash)
