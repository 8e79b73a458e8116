-- What is claimed of the money in a contract's transactions, by the key plan: each pays out all that it spends but the fee, and nothing is
-- cut off at zero.
use Rattle.std.specs.Prelude.{ℕ, List}
use Rattle.spec_terms.specs.Faults.{IsWellFormed}
use Rattle.spec_compiler.specs.Keyed.Keys.{by_plan}
use Rattle.spec_compiler.specs.Instance.{Instance}
use Rattle.theory_script.specs.Keyed.Money as keyed
pub use Rattle.theory_script.specs.Keyed.Money.{paid_out, paid_in, IsKept}

-- every transaction of the contract keeps its money; every position holds exactly its static balance, and pays for each of its branches
abbrev pub KeepsMoney : (List ℕ → List ℕ) → Instance → Type 0
KeepsMoney hash = keyed.KeepsMoney hash by_plan

-- of every contract that passed the check
abbrev pub MoneyIsKept : Type 0
MoneyIsKept = (hash : List ℕ → List ℕ) (s : Instance) → IsWellFormed s.advert → KeepsMoney hash s
