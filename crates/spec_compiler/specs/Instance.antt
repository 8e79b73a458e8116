-- What a BitML contract is compiled with, and the keys and the script of each of its positions by the key plan: the key of a label is
-- a hash of its text.
use Rattle.std.specs.Prelude.{ℕ, List}
use Rattle.spec_terms.specs.Term.{Contract}
use Rattle.spec_terms.specs.declared.path.PathStep.{PathStep}
use Rattle.spec_compiler.specs.Keyed.Keys.{by_plan}
use Rattle.spec_compiler.specs.Scripts.{Demands}
use Rattle.spec_compiler.specs.Keyed.Instance as keyed
pub use Rattle.spec_compiler.specs.Keyed.Instance.{Instance, people, branch_path, branch_label}

abbrev pub branch_keys : (List ℕ → List ℕ) → Instance → List PathStep → List (List ℕ)
branch_keys hash = keyed.branch_keys hash by_plan

abbrev pub deposit_key : (List ℕ → List ℕ) → List ℕ → List ℕ
deposit_key hash = keyed.deposit_key hash by_plan

abbrev pub position_demands : (List ℕ → List ℕ) → Instance → List PathStep → Contract → List Demands
position_demands hash = keyed.position_demands hash by_plan

abbrev pub position_script : (List ℕ → List ℕ) → Instance → List PathStep → Contract → List ℕ
position_script hash = keyed.position_script hash by_plan
