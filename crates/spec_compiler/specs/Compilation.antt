-- All transactions and scripts of a BitML contract, in the order of its text, by the key plan.
use Rattle.std.specs.Prelude.{ℕ, List}
use Rattle.spec_terms.specs.Term as term
use Rattle.spec_terms.specs.Term.{Contract, Parts}
use Rattle.spec_terms.specs.declared.path.PathStep.{PathStep}
use Rattle.spec_compiler.specs.Keyed.Keys.{by_plan}
use Rattle.spec_compiler.specs.Instance.{Instance}
use Rattle.spec_compiler.specs.declared.unsigned.Unsigned.{Unsigned}
use Rattle.spec_compiler.specs.Transactions.{Standing}
use Rattle.spec_compiler.specs.Keyed.Compilation as keyed
pub use Rattle.spec_compiler.specs.Keyed.Compilation.{Compilation}

-- ---- the transactions by path

abbrev pub choice_transactions : (List ℕ → List ℕ) → Instance → Standing → ℕ → Contract → List (List PathStep × Unsigned)
choice_transactions hash = keyed.choice_transactions hash by_plan

abbrev pub branch_transactions : (List ℕ → List ℕ) → Instance → Standing → ℕ → ℕ → term.Guarded → List (List PathStep × Unsigned)
branch_transactions hash = keyed.branch_transactions hash by_plan

abbrev pub parts_transactions : (List ℕ → List ℕ) → Instance → List PathStep → Unsigned → ℕ → Parts → List (List PathStep × Unsigned)
parts_transactions hash = keyed.parts_transactions hash by_plan

abbrev pub path_transactions : (List ℕ → List ℕ) → Instance → List (List PathStep × Unsigned)
path_transactions hash = keyed.path_transactions hash by_plan

-- ---- the scripts by position

abbrev pub choice_scripts : (List ℕ → List ℕ) → Instance → List PathStep → ℕ → Contract → List (List PathStep × List ℕ)
choice_scripts hash = keyed.choice_scripts hash by_plan

abbrev pub branch_scripts : (List ℕ → List ℕ) → Instance → List PathStep → term.Guarded → List (List PathStep × List ℕ)
branch_scripts hash = keyed.branch_scripts hash by_plan

abbrev pub parts_scripts : (List ℕ → List ℕ) → Instance → List PathStep → ℕ → Parts → List (List PathStep × List ℕ)
parts_scripts hash = keyed.parts_scripts hash by_plan

abbrev pub scripts : (List ℕ → List ℕ) → Instance → List (List PathStep × List ℕ)
scripts hash = keyed.scripts hash by_plan

-- ---- all of it

abbrev pub compilation : (List ℕ → List ℕ) → Instance → Compilation
compilation hash = keyed.compilation hash by_plan
