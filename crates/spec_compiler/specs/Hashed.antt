-- The strings that are hashed when a contract is compiled by the key plan, in their order: the text of a label is hashed to have its key.
use Rattle.std.specs.Prelude.{ℕ, List}
use Rattle.spec_compiler.specs.Instance.{Instance}
use Rattle.spec_compiler.specs.Keyed.Keys.{by_plan}
use Rattle.spec_compiler.specs.Keyed.Hashed as keyed
pub use Rattle.spec_compiler.specs.Keyed.Hashed.{path_labels, spent_strings, unsigned_strings}

-- the labels by path and participant, the scripts by position, and the strings of the initial transaction and of each path's
abbrev pub compiled_strings : (List ℕ → List ℕ) → Instance → List (List ℕ)
compiled_strings hash = keyed.compiled_strings hash by_plan
