-- What is claimed of the transactions of a deal: one for the beginning and one for each branch, in the order of the text; that they pay out
-- what they spend but the fee; and which strings are hashed to make them.
use Rattle.std.specs.Prelude.{◌≡◌, ℕ, List, ◌∷◌, ◌++◌, map, filter, true, Some, ◌↔◌}
use Rattle.std.specs.List.{Contains}
use Rattle.spec_terms.specs.Term.{Contract}
use Rattle.spec_terms.specs.Faults.{IsWellFormed}
use Rattle.spec_terms.specs.Order.{branch_paths}
use Rattle.spec_bitcoin.specs.declared.label.Label.{Label}
use Rattle.spec_compiler.specs.Keyed.OwnScripts.{OwnScripts}
use Rattle.spec_compiler.specs.Keyed.Keys.{Keys, given}
use Rattle.spec_compiler.specs.Keyed.Hashed.{compiled_strings}
use Rattle.spec_compiler.specs.Keyed.Instance.{Instance, people}
use Rattle.spec_compiler.specs.Keyed.Transactions.{party_script}
use Rattle.spec_tool.specs.declared.which.Which.{Which}
use Rattle.spec_tool.specs.declared.which.Which.TheVariants as names
use Rattle.spec_tool.specs.Keyed.Listed.{Listed, listed, listed_at}
use Rattle.spec_deal.specs.Hashed.{deal_strings}
use Rattle.spec_deal.specs.Used.{uses_key}
use Rattle.theory_script.specs.Keyed.Listed.{are_once}
use Rattle.theory_script.specs.Keyed.Money.{IsKept}

-- the names of a contract's transactions: the initial one's, and then those of its branches in the order of the text
abbrev pub all_names : Contract → List Which
all_names root = names.Init ∷ map names.At (branch_paths root)

-- the transactions that a plan shows, that are signed and finished
pub record AreTransactions (hash : List ℕ → List ℕ) (keys : Keys) (s : Instance) : Type 0 where
  -- one under each name, in order
  pub named : map (λ (l : Listed). l.which) (listed hash keys s) ≡ all_names s.advert.root
  -- no name stands twice
  pub once : are_once (branch_paths s.advert.root) ≡ true
  -- each is the one that the contract has under its name
  pub each : (l : Listed) → Contains (listed hash keys s) l ↔ (listed_at hash keys s l.which ≡ Some l)
  -- of a contract that passed the check each pays out all that it spends but the fee
  pub money : IsWellFormed s.advert → (l : Listed) → Contains (listed hash keys s) l → IsKept s.advert l.pending

abbrev pub TransactionsOfDeals : Type 0
TransactionsOfDeals = (hash : List ℕ → List ℕ) (keys : Keys) (s : Instance) → AreTransactions hash keys s

-- what is hashed for a deal is the script of the deposits of each participant whose key is used, and then what is hashed to compile its
-- contract at given keys
abbrev pub DealsHash : Type 0
DealsHash = (hash : List ℕ → List ℕ) (key_of : Label → List ℕ) (own : OwnScripts) (s : Instance)
    → deal_strings hash (given key_of own) s
    ≡ map (party_script hash (given key_of own)) (filter (uses_key (given key_of own) s.advert) (people s))
    ++ compiled_strings hash (given key_of own) s
