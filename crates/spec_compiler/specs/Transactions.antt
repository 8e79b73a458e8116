-- The transactions of a BitML contract, before they are put in order, by the key plan.
use Rattle.std.specs.Prelude.{ℕ, List}
use Rattle.spec_terms.specs.Term as term
use Rattle.spec_terms.specs.Term.{Contract, Parts}
use Rattle.spec_terms.specs.Precondition.{Holding}
use Rattle.spec_terms.specs.declared.path.PathStep.{PathStep}
use Rattle.spec_bitcoin.specs.declared.tx.TxOut.{TxOut}
use Rattle.spec_compiler.specs.Keyed.Keys.{by_plan}
use Rattle.spec_compiler.specs.declared.unsigned.Spent.{Spent}
use Rattle.spec_compiler.specs.declared.unsigned.Unsigned.{Unsigned}
use Rattle.spec_compiler.specs.Instance.{Instance}
use Rattle.spec_compiler.specs.Keyed.Transactions as keyed
pub use Rattle.spec_compiler.specs.Keyed.Transactions.{input_of, tx_of, digest_of_spent, prepared, output_outpoint, pays}
pub use Rattle.spec_compiler.specs.Keyed.Transactions.{outpoint_or_none, holding_or_none}
pub use Rattle.spec_compiler.specs.Keyed.Transactions.{Standing, continued_value, part_position, root_value}

-- ---- deposits

abbrev pub party_script : (List ℕ → List ℕ) → List ℕ → List ℕ
party_script hash = keyed.party_script hash by_plan

abbrev pub deposit : (List ℕ → List ℕ) → Instance → List ℕ → Holding → Spent
deposit hash = keyed.deposit hash by_plan

abbrev pub put_deposits : (List ℕ → List ℕ) → Instance → List (List ℕ) → List Spent
put_deposits hash = keyed.put_deposits hash by_plan

abbrev pub persistent_deposits : (List ℕ → List ℕ) → Instance → List Spent
persistent_deposits hash = keyed.persistent_deposits hash by_plan

-- ---- positions, and what the transaction of a branch does

abbrev pub part_outputs : (List ℕ → List ℕ) → Instance → List PathStep → ℕ → Parts → List TxOut
part_outputs hash = keyed.part_outputs hash by_plan

abbrev pub core_outputs : (List ℕ → List ℕ) → Instance → List PathStep → ℕ → term.Guarded → List TxOut
core_outputs hash = keyed.core_outputs hash by_plan

abbrev pub core_unsigned : (List ℕ → List ℕ) → Instance → Standing → ℕ → ℕ → term.Guarded → Unsigned
core_unsigned hash = keyed.core_unsigned hash by_plan

abbrev pub branch_unsigned : (List ℕ → List ℕ) → Instance → Standing → ℕ → term.Guarded → Unsigned
branch_unsigned hash = keyed.branch_unsigned hash by_plan

abbrev pub continued : (List ℕ → List ℕ) → Instance → List PathStep → Unsigned → ℕ → Contract → Standing
continued hash = keyed.continued hash by_plan

abbrev pub part_standing : (List ℕ → List ℕ) → Instance → List PathStep → Unsigned → ℕ → ℕ → Contract → Standing
part_standing hash = keyed.part_standing hash by_plan

-- ---- the initial transaction

abbrev pub initial_unsigned : (List ℕ → List ℕ) → Instance → Unsigned
initial_unsigned hash = keyed.initial_unsigned hash by_plan

abbrev pub root_standing : (List ℕ → List ℕ) → Instance → Standing
root_standing hash = keyed.root_standing hash by_plan
