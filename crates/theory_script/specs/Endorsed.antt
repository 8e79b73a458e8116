-- What is claimed of the answer whether a contract is endorsed, by the key plan: none is missing, or the first that is.
use Rattle.std.specs.Prelude.{ℕ, List}
use Rattle.spec_bitcoin.specs.Keys.{Pair}
use Rattle.spec_compiler.specs.Keyed.Keys.{by_plan}
use Rattle.spec_compiler.specs.Instance.{Instance}
use Rattle.theory_script.specs.Keyed.Endorsed as keyed
pub use Rattle.theory_script.specs.Keyed.Endorsed.{IsFirstMissing}

-- no endorsement is missing exactly where the contract is endorsed, and the one that is answered is the first that is missing
abbrev pub TellsMissing : (List ℕ → List ℕ) → Instance → List Pair → Type 0
TellsMissing hash = keyed.TellsMissing hash by_plan

abbrev pub MissingIsFirst : Type 0
MissingIsFirst = (hash : List ℕ → List ℕ) (s : Instance) (book : List Pair) → TellsMissing hash s book
