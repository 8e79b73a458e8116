-- The transactions of a compiled contract, each with what it spends and the labels whose keys sign its inputs, input by input, by the key
-- plan.
use Rattle.std.specs.Prelude.{ℕ, List, Option}
use Rattle.spec_compiler.specs.Keyed.Keys.{by_plan}
use Rattle.spec_compiler.specs.Instance.{Instance}
use Rattle.spec_tool.specs.declared.which.Which.{Which}
use Rattle.spec_tool.specs.Keyed.Listed as keyed
pub use Rattle.spec_tool.specs.Keyed.Listed.{Listed, deposit_signer, initial_signers, branch_signers, path_signers, path_listed}
pub use Rattle.spec_tool.specs.Keyed.Listed.{which_text, same_which}

abbrev pub initial_listed : (List ℕ → List ℕ) → Instance → Listed
initial_listed hash = keyed.initial_listed hash by_plan

-- all of them: the initial one, and then those of the paths in the order of the text
abbrev pub listed : (List ℕ → List ℕ) → Instance → List Listed
listed hash = keyed.listed hash by_plan

-- the one of this name
abbrev pub listed_at : (List ℕ → List ℕ) → Instance → Which → Option Listed
listed_at hash = keyed.listed_at hash by_plan
