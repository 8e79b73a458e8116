-- What is claimed of the signers of a contract's transactions, whatever the keys are.
use Rattle.std.specs.Prelude.{◌≡◌, ℕ, List, length, Some}
use Rattle.spec_compiler.specs.Keyed.Keys.{Keys}
use Rattle.spec_compiler.specs.Keyed.Instance.{Instance}
use Rattle.spec_tool.specs.declared.which.Which.{Which}
use Rattle.spec_tool.specs.Keyed.Listed.{Listed, listed_at}

-- a contract's transaction has signers for each of its inputs
abbrev pub SignersForEach : Type 0
SignersForEach = (hash : List ℕ → List ℕ) (keys : Keys) (instance : Instance) (which : Which) (l : Listed)
    → listed_at hash keys instance which ≡ Some l → length l.signers ≡ length l.pending.spends
