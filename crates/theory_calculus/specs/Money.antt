-- What is claimed of money: what active contracts hold, what each step takes and gives, and how much there is.
use Rattle.std.specs.Prelude.{◌≡◌, ℕ, ◌+◌, ◌≤◌, nat_le, true, List, Some, slice_get, sum_by, ℤ, pos}
use Rattle.std.specs.List.{Contains, AllByRecursion, list_all}
use Rattle.spec_data.specs.Lists.{are_distinct}
use Rattle.spec_data.specs.Ranges.{max_money}
use Rattle.spec_terms.specs.Advert.{Advert}
use Rattle.spec_terms.specs.Balance.{as_funded, all_funded}
use Rattle.spec_terms.specs.Core.{core}
use Rattle.spec_terms.specs.Faults.{IsWellFormed, sum_of_parts}
use Rattle.spec_terms.specs.Paths.{position, contract_under}
use Rattle.spec_terms.specs.Precondition.{volatile, value_of_puts}
use Rattle.spec_terms.specs.Term.{Guarded, auth, after, put_reveal, withdraw, split, Contract, branches}
use Rattle.spec_calculus.specs.declared.step.Step.{Step}
use Rattle.spec_calculus.specs.declared.step.Step.TheVariants as steps
use Rattle.spec_calculus.specs.declared.parts.ActiveContract.{ActiveContract}
use Rattle.spec_calculus.specs.Configuration.{Configuration}
use Rattle.spec_calculus.specs.Beginning.{contract_at, fee_of}
use Rattle.spec_calculus.specs.Moves.{value_in, value_out}
use Rattle.spec_calculus.specs.Branches.{active_at, balance_of, advert_of, gone, total_value}
use Rattle.spec_calculus.specs.Steps.{fails, effect, IsLegalRun, opening}

-- ---- what active contracts hold

-- a balance pays for what a core does: with the deposits that a put brings for the fee, and for a split's parts and the fee exactly
abbrev pub Pays : Advert → ℕ → Guarded → Type 0
Pays advert balance (put_reveal puts reveals test next) = advert.fee ≤ balance + value_of_puts (volatile advert.pre) puts
Pays advert balance (withdraw party) = advert.fee ≤ balance
Pays advert balance (split parts) = sum_of_parts parts + advert.fee ≡ balance
Pays advert balance (auth party body) = Unit {0}
Pays advert balance (after height body) = Unit {0}

-- an active contract stands at a position of its contract, holds exactly the static balance there, and can pay for each branch
pub record IsBalanced (contracts : List Advert) (a : ActiveContract) : Type 0 where
  pub advert : Advert
  pub there : contract_at contracts a.contract ≡ Some advert
  pub choice : Contract
  pub chosen : contract_under advert.root a.position ≡ Some choice
  -- the static balance at that position, which is the only one there
  pub static : Contains (all_funded advert) (as_funded a.position (pos a.balance) (position choice))
  pub only : (v : ℤ) (c : Contract) → Contains (all_funded advert) (as_funded a.position v (position c)) → v ≡ pos a.balance
  pub pays : (branch : ℕ) (b : Guarded) → slice_get (branches choice) branch ≡ Some b → Pays advert a.balance (core b)

-- ---- what a step takes and gives

-- the balances of all active contracts, added up
abbrev pub total_balance : List ActiveContract → ℕ
total_balance active = sum_by (λ a. a.balance) active

-- all that deposits and active contracts hold
abbrev pub total_money : Configuration → ℕ
total_money g = total_value g.deposits + total_balance g.active

-- the fee of the contract that an active contract is of
abbrev pub fee_at : Configuration → ℕ → ℕ
fee_at g output = fee_of (advert_of g.contracts (active_at g.active output))

-- the money before a step is the money after it with what is left to the miner: a contract's fee, or what a move doesn't pay out
abbrev pub IsMoneyKept : Configuration → Step → Type 0
IsMoneyKept g (steps.Move action) =
    total_money (effect g (steps.Move action)) + value_in g.deposits action.inputs ≡ total_money g + value_out action.outputs
IsMoneyKept g (steps.Init contract) =
    total_money (effect g (steps.Init contract)) + fee_of (contract_at g.contracts contract) ≡ total_money g
IsMoneyKept g (steps.PutReveal output branch) = total_money (effect g (steps.PutReveal output branch)) + fee_at g output ≡ total_money g
IsMoneyKept g (steps.Withdraw output branch) = total_money (effect g (steps.Withdraw output branch)) + fee_at g output ≡ total_money g
IsMoneyKept g (steps.Split output branch) = total_money (effect g (steps.Split output branch)) + fee_at g output ≡ total_money g
IsMoneyKept g (steps.Delay blocks) = total_money (effect g (steps.Delay blocks)) ≡ total_money g
IsMoneyKept g (steps.AuthMove party action) = total_money (effect g (steps.AuthMove party action)) ≡ total_money g
IsMoneyKept g (steps.Advertise contract bindings) = total_money (effect g (steps.Advertise contract bindings)) ≡ total_money g
IsMoneyKept g (steps.Commit contract party lengths) = total_money (effect g (steps.Commit contract party lengths)) ≡ total_money g
IsMoneyKept g (steps.AuthInit contract party deposit) = total_money (effect g (steps.AuthInit contract party deposit)) ≡ total_money g
IsMoneyKept g (steps.Reveal contract party secret) = total_money (effect g (steps.Reveal contract party secret)) ≡ total_money g
IsMoneyKept g (steps.AuthBranch party output branch) = total_money (effect g (steps.AuthBranch party output branch)) ≡ total_money g

-- what holds wherever a legal run leads to
pub record IsFunded (g : Configuration) : Type 0 where
  pub balanced : (a : ActiveContract) → Contains g.active a → IsBalanced g.contracts a
  pub kept : (step : Step) → fails g step ≡ 0 → IsMoneyKept g step
  -- and so money never grows
  pub never_grows : (step : Step) → fails g step ≡ 0 → total_money (effect g step) ≤ total_money g

-- with contracts that have passed the check, wherever a legal run leads to from an opening
abbrev pub MoneyIsKept : Type 0
MoneyIsKept =
    (parties honest : List (List ℕ)) (deposits : List (List ℕ × ℕ)) (contracts : List Advert) (steps : List Step) (g : Configuration)
    → AllByRecursion IsWellFormed contracts → IsLegalRun (opening parties honest deposits contracts) steps g → IsFunded g

-- ---- how much there is

-- there is no more than all money, altogether and anywhere
pub record IsWithinAllMoney (g : Configuration) : Type 0 where
  pub total : total_money g ≤ max_money
  pub deposits : list_all (λ d. nat_le d.value max_money) g.deposits ≡ true
  pub active : list_all (λ a. nat_le a.balance max_money) g.active ≡ true
  -- nor in what a move or a step of a contract adds up
  pub inputs : (numbers : List ℕ) → are_distinct numbers ≡ true → value_in g.deposits numbers ≤ max_money
  pub joined : (output : ℕ) (numbers : List ℕ) → balance_of (active_at g.active output) + total_value (gone g.deposits numbers) ≤ max_money

-- where the deposits at the opening are no more than that
abbrev pub MoneyStaysWithin : Type 0
MoneyStaysWithin =
    (parties honest : List (List ℕ)) (deposits : List (List ℕ × ℕ)) (contracts : List Advert) (steps : List Step) (g : Configuration)
    → AllByRecursion IsWellFormed contracts → total_money (opening parties honest deposits contracts) ≤ max_money
    → IsLegalRun (opening parties honest deposits contracts) steps g → IsWithinAllMoney g
