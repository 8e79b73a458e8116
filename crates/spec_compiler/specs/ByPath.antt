-- A contract's positions and transactions, one by one, by the key plan: what stands at the end of a path of a BitML contract.
use Rattle.std.specs.Prelude.{ℕ, List, Option}
use Rattle.spec_terms.specs.Term as term
use Rattle.spec_terms.specs.Term.{Contract}
use Rattle.spec_terms.specs.declared.path.PathStep.{PathStep}
use Rattle.spec_bitcoin.specs.declared.tx.OutPoint.{OutPoint}
use Rattle.spec_compiler.specs.Keyed.Keys.{by_plan}
use Rattle.spec_compiler.specs.declared.prepared.Prepared.{Prepared}
use Rattle.spec_compiler.specs.Instance.{Instance}
use Rattle.spec_compiler.specs.declared.unsigned.Unsigned.{Unsigned}
use Rattle.spec_compiler.specs.Transactions.{Standing}
use Rattle.spec_compiler.specs.Keyed.ByPath as keyed
pub use Rattle.spec_compiler.specs.Keyed.ByPath.{PathEnd, at_position, at_branch, branch_end}

abbrev pub continued_end : (List ℕ → List ℕ) → Instance → Standing → ℕ → term.Guarded → term.Guarded
    → Option (Standing × Contract)
continued_end hash = keyed.continued_end hash by_plan

abbrev pub part_end : (List ℕ → List ℕ) → Instance → Standing → ℕ → term.Guarded → ℕ → term.Guarded → Option PathEnd
part_end hash = keyed.part_end hash by_plan

abbrev pub next_end : (List ℕ → List ℕ) → Instance → PathStep → PathEnd → Option PathEnd
next_end hash = keyed.next_end hash by_plan

abbrev pub end_from : (List ℕ → List ℕ) → Instance → PathEnd → List PathStep → Option PathEnd
end_from hash = keyed.end_from hash by_plan

abbrev pub end_at : (List ℕ → List ℕ) → Instance → List PathStep → Option PathEnd
end_at hash = keyed.end_at hash by_plan

abbrev pub as_position : (List ℕ → List ℕ) → Instance → PathEnd → Option (Standing × Contract)
as_position hash = keyed.as_position hash by_plan

abbrev pub as_unsigned : (List ℕ → List ℕ) → Instance → PathEnd → Option Unsigned
as_unsigned hash = keyed.as_unsigned hash by_plan

abbrev pub position_at : (List ℕ → List ℕ) → Instance → List PathStep → Option (Standing × Contract)
position_at hash = keyed.position_at hash by_plan

abbrev pub outpoint_at : (List ℕ → List ℕ) → Instance → List PathStep → Option OutPoint
outpoint_at hash = keyed.outpoint_at hash by_plan

abbrev pub unsigned_at : (List ℕ → List ℕ) → Instance → List PathStep → Option Unsigned
unsigned_at hash = keyed.unsigned_at hash by_plan

abbrev pub prepared_at : (List ℕ → List ℕ) → Instance → List PathStep → Option Prepared
prepared_at hash = keyed.prepared_at hash by_plan
