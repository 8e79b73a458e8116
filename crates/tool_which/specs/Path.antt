-- Words that name paths.
use Rattle.std.specs.Prelude.{ℕ, List, take, drop, Option, Some, None, is_some}
use Rattle.spec_terms.specs.declared.path.PathStep.{PathStep}
use Rattle.spec_text.specs.Words.{given, small}
use Rattle.spec_tool.specs.declared.which.Which.{Which}
use Rattle.spec_tool.specs.declared.which.Which.TheVariants as names
use Rattle.bm_runfile.specs.Steps.{step_length}

-- what stands behind the number at the front, where there is one up to the next step
abbrev pub behind_number : List ℕ → Option (List ℕ)
behind_number bytes = given (is_some (small (take (step_length bytes) bytes))) (drop (step_length bytes) bytes)

-- the transaction at a path, if there is a path
abbrev pub at_path : Option (List PathStep) → Option Which
at_path None = None
at_path (Some path) = Some (names.At path)
