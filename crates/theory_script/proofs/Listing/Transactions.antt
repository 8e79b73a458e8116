-- The list of a contract's transactions has each path with its transaction, by the key plan.
use Rattle.std.proofs.Common.{◌≡◌, ℕ, List}
use Rattle.spec_terms.specs.declared.path.PathStep.{PathStep}
use Rattle.spec_compiler.specs.Keyed.Keys.{by_plan}
use Rattle.spec_compiler.specs.Instance.{Instance}
use Rattle.spec_compiler.specs.Compilation.{path_transactions, compilation}
use Rattle.spec_compiler.specs.ByPath.{unsigned_at, prepared_at}
use Rattle.theory_script.specs.Listed.{at_path}
use Rattle.theory_script.proofs.Keyed.Transactions as keyed
pub use Rattle.theory_script.proofs.Keyed.Transactions.{AreRight, path_same}

module _ (hash : List ℕ → List ℕ) (s : Instance) where
  pub transactions_right : AreRight (unsigned_at hash s) (path_transactions hash s)
  transactions_right = keyed.transactions_right hash by_plan s

  pub paths_are_listed : (path : List PathStep) → at_path path (compilation hash s).paths ≡ prepared_at hash s path
  paths_are_listed = keyed.paths_are_listed hash by_plan s
