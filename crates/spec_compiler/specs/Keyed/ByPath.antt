-- A contract's positions and transactions, one by one: what stands at the end of a path of a BitML contract, by the key
-- that each label has.
use Rattle.std.specs.Prelude.{ℕ, List, [], ◌∷◌, Option, Some, None, option_map, option_and_then, slice_get}
use Rattle.spec_terms.specs.Term as term
use Rattle.spec_terms.specs.Term.{Contract, branches, parts_list, auth, after, put_reveal, withdraw, split}
use Rattle.spec_terms.specs.Core.{core}
use Rattle.spec_terms.specs.declared.path.PathStep.{PathStep}
use Rattle.spec_terms.specs.declared.path.PathStep.TheVariants.{Branch as To, Part as Into}
use Rattle.spec_bitcoin.specs.declared.tx.OutPoint.{OutPoint}
use Rattle.spec_compiler.specs.Keyed.Keys.{Keys}
use Rattle.spec_compiler.specs.declared.prepared.Prepared.{Prepared}
use Rattle.spec_compiler.specs.Keyed.Instance.{Instance, branch_path}
use Rattle.spec_compiler.specs.declared.unsigned.Unsigned.{Unsigned}
use Rattle.spec_compiler.specs.Keyed.Transactions.{Standing, prepared, continued_value, branch_unsigned, continued, part_standing}
use Rattle.spec_compiler.specs.Keyed.Transactions.{root_standing}

-- what stands at the end of a path: a position with its branches, or branch i of a position
pub data PathEnd : Type 0 where
  at_position : (here : Standing) → (contract : Contract) → PathEnd
  at_branch : (here : Standing) → (i : ℕ) → (b : term.Guarded) → PathEnd

-- branch i of a position
abbrev pub branch_end : Standing → Contract → ℕ → Option PathEnd
branch_end here contract i = option_map (at_branch here i) (slice_get (branches contract) i)

-- the position at which a branch with this core goes on
abbrev pub continued_end : (List ℕ → List ℕ) → Keys → Instance → Standing → ℕ → term.Guarded → term.Guarded
    → Option (Standing × Contract)
continued_end hash keys s here i b (put_reveal puts reveals test next) =
    Some (
      continued hash keys s (branch_path here.position i) (branch_unsigned hash keys s here i b)
          (continued_value s here.output.value puts) next,
      next,
    )
continued_end hash keys s here i b (withdraw party) = None
continued_end hash keys s here i b (split parts) = None
continued_end hash keys s here i b (auth party body) = None
continued_end hash keys s here i b (after height body) = None

-- the position of part k of a branch with this core
abbrev pub part_end : (List ℕ → List ℕ) → Keys → Instance → Standing → ℕ → term.Guarded → ℕ → term.Guarded → Option PathEnd
part_end hash keys s here i b k (put_reveal puts reveals test next) = None
part_end hash keys s here i b k (withdraw party) = None
part_end hash keys s here i b k (split parts) =
    option_map
    (λ (p : ℕ × Contract).
    at_position (part_standing hash keys s (branch_path here.position i) (branch_unsigned hash keys s here i b) k p.0 p.1) p.1)
    (slice_get (parts_list parts) k)
part_end hash keys s here i b k (auth party body) = None
part_end hash keys s here i b k (after height body) = None

-- one step further
abbrev pub next_end : (List ℕ → List ℕ) → Keys → Instance → PathStep → PathEnd → Option PathEnd
next_end hash keys s (To i) (at_position here contract) = branch_end here contract i
next_end hash keys s (Into k) (at_position here contract) = None
next_end hash keys s (To j) (at_branch here i b) =
    option_and_then (λ (p : Standing × Contract). branch_end p.0 p.1 j) (continued_end hash keys s here i b (core b))
next_end hash keys s (Into k) (at_branch here i b) = part_end hash keys s here i b k (core b)

-- what stands at the end of a path that begins here
abbrev pub end_from : (List ℕ → List ℕ) → Keys → Instance → PathEnd → List PathStep → Option PathEnd
end_from hash keys s here [] = Some here
end_from hash keys s here (step ∷ steps) =
    option_and_then (λ (next : PathEnd). end_from hash keys s next steps) (next_end hash keys s step here)

abbrev pub end_at : (List ℕ → List ℕ) → Keys → Instance → List PathStep → Option PathEnd
end_at hash keys s path = end_from hash keys s (at_position (root_standing hash keys s) s.advert.root) path

-- the position with its branches
abbrev pub as_position : (List ℕ → List ℕ) → Keys → Instance → PathEnd → Option (Standing × Contract)
as_position hash keys s (at_position here contract) = Some (here, contract)
as_position hash keys s (at_branch here i b) = continued_end hash keys s here i b (core b)

-- the transaction of the branch
abbrev pub as_unsigned : (List ℕ → List ℕ) → Keys → Instance → PathEnd → Option Unsigned
as_unsigned hash keys s (at_position here contract) = None
as_unsigned hash keys s (at_branch here i b) = Some (branch_unsigned hash keys s here i b)

-- the position of this name, with its branches
abbrev pub position_at : (List ℕ → List ℕ) → Keys → Instance → List PathStep → Option (Standing × Contract)
position_at hash keys s position = option_and_then (as_position hash keys s) (end_at hash keys s position)

-- where the output of a position lies
abbrev pub outpoint_at : (List ℕ → List ℕ) → Keys → Instance → List PathStep → Option OutPoint
outpoint_at hash keys s position =
    option_map (λ (p : Standing × Contract). p.0.output.outpoint) (position_at hash keys s position)

-- the transaction of a path
abbrev pub unsigned_at : (List ℕ → List ℕ) → Keys → Instance → List PathStep → Option Unsigned
unsigned_at hash keys s path = option_and_then (as_unsigned hash keys s) (end_at hash keys s path)

abbrev pub prepared_at : (List ℕ → List ℕ) → Keys → Instance → List PathStep → Option Prepared
prepared_at hash keys s path = option_map (prepared hash) (unsigned_at hash keys s path)
