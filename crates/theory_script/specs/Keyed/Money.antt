-- What is claimed of the money in a contract's transactions: each pays out all that it spends but the fee, and nothing is cut off at zero.
use Rattle.std.specs.Prelude.{◌≡◌, ℕ, ◌+◌, List, Some, slice_get, sum_by, pos}
use Rattle.std.specs.List.{Contains}
use Rattle.spec_terms.specs.Paths as spots
use Rattle.spec_terms.specs.Balance.{as_funded, all_funded}
use Rattle.spec_terms.specs.Term.{Guarded, Contract, branches}
use Rattle.spec_terms.specs.Advert.{Advert}
use Rattle.spec_terms.specs.Core.{core}
use Rattle.spec_terms.specs.Faults.{IsWellFormed}
use Rattle.spec_terms.specs.declared.path.PathStep.{PathStep}
use Rattle.spec_compiler.specs.Keyed.Keys.{Keys}
use Rattle.spec_compiler.specs.declared.unsigned.Unsigned.{Unsigned}
use Rattle.spec_compiler.specs.Keyed.Instance.{Instance}
use Rattle.spec_compiler.specs.Keyed.Transactions.{Standing, initial_unsigned}
use Rattle.spec_compiler.specs.Keyed.ByPath.{position_at, unsigned_at}
use Rattle.theory_calculus.specs.Money.{Pays}

-- what a transaction pays out, in satoshi
abbrev pub paid_out : Unsigned → ℕ
paid_out d = sum_by (λ o. o.value) d.outputs

-- what it spends
abbrev pub paid_in : Unsigned → ℕ
paid_in d = sum_by (λ x. x.value) d.spends

-- what a transaction spends is what it pays out and the fee of its contract
abbrev pub IsKept : Advert → Unsigned → Type 0
IsKept advert d = paid_out d + advert.fee ≡ paid_in d

-- every transaction of the contract keeps its money; every position holds exactly its static balance, and pays for each of its branches
pub record KeepsMoney (hash : List ℕ → List ℕ) (keys : Keys) (s : Instance) : Type 0 where
  pub initial : IsKept s.advert (initial_unsigned hash keys s)
  pub paths : (path : List PathStep) (d : Unsigned) → unsigned_at hash keys s path ≡ Some d → IsKept s.advert d
  pub static : (position : List PathStep) (here : Standing) (contract : Contract) → position_at hash keys s position ≡ Some (here, contract)
      → Contains (all_funded s.advert) (as_funded position (pos here.output.value) (spots.position contract))
  pub positions : (position : List PathStep) (here : Standing) (contract : Contract) (i : ℕ) (b : Guarded)
      → position_at hash keys s position ≡ Some (here, contract) → slice_get (branches contract) i ≡ Some b
      → Pays s.advert here.output.value (core b)

-- of every contract that passed the check
abbrev pub MoneyIsKept : Type 0
MoneyIsKept = (hash : List ℕ → List ℕ) (keys : Keys) (s : Instance) → IsWellFormed s.advert → KeepsMoney hash keys s
