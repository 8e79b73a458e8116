-- What a compiled contract holds at its positions, by the key plan.
use Rattle.std.proofs.Common.{◌≡◌, ℕ, ◌≤◌, List, Some}
use Rattle.spec_terms.specs.Term.{Contract}
use Rattle.spec_terms.specs.Precondition.{persistent, total_of}
use Rattle.spec_terms.specs.Faults.{IsWellFormed}
use Rattle.spec_data.specs.Ranges.{max_money}
use Rattle.spec_terms.specs.declared.path.PathStep.{PathStep}
use Rattle.spec_compiler.specs.Keyed.Keys.{by_plan}
use Rattle.spec_compiler.specs.Instance.{Instance}
use Rattle.spec_compiler.specs.Transactions.{Standing, root_value}
use Rattle.spec_compiler.specs.ByPath.{position_at}
use Rattle.theory_script.proofs.Keyed.Balances as keyed
pub use Rattle.theory_script.proofs.Keyed.Balances.{is_kept, stands_kept}

module _ (hash : List ℕ → List ℕ) (s : Instance) (well : IsWellFormed s.advert) where
  pub root_enough : s.advert.fee ≤ total_of (persistent s.advert.pre)
  root_enough = keyed.root_enough hash by_plan s well

  pub root_little : root_value s ≤ max_money
  root_little = keyed.root_little hash by_plan s well

  pub position_little : (q : List PathStep) (here : Standing) (choice : Contract) → position_at hash s q ≡ Some (here, choice)
      → here.output.value ≤ max_money
  position_little = keyed.position_little hash by_plan s well
