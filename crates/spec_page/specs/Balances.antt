-- Where the money is at a moment of a run, by the configuration of the calculus of BitML.
use Rattle.std.specs.Prelude.{ℕ, ◌+◌, ◌-◌, List, [], map, filter, flat_map, sum_by}
use Rattle.spec_terms.specs.Parties.{participants, add_all}
use Rattle.spec_calculus.specs.declared.parts.Deposit.{Deposit}
use Rattle.spec_calculus.specs.declared.step.Owner.TheVariants.{Party}
use Rattle.spec_calculus.specs.Configuration.{Configuration}
use Rattle.spec_calculus.specs.Same.{owner_eq}
use Rattle.spec_run.specs.Setup.{Setup}
use Rattle.spec_page.specs.declared.event_row.Money.{Money}

-- the participants of all contracts, each once: a column each
abbrev pub columns : Setup → List (List ℕ)
columns s = add_all [] (flat_map participants s.contracts)

-- what a party has
abbrev pub held_by : List Deposit → List ℕ → ℕ
held_by deposits party = sum_by (λ d. d.value) (filter (λ d. owner_eq d.owner (Party party)) deposits)

abbrev pub all_deposits : Configuration → ℕ
all_deposits g = sum_by (λ d. d.value) g.deposits

-- what the contracts hold
abbrev pub all_contracts : Configuration → ℕ
all_contracts g = sum_by (λ a. a.balance) g.active

-- what the header's deposits are worth
abbrev pub all_money : Setup → ℕ
all_money s = sum_by (λ d. d.1) s.header.deposits

-- what these parties have, the contracts, everybody else and the miner
abbrev pub money_of : List (List ℕ) → ℕ → Configuration → Money
money_of parties total g = record {
  parties = map (held_by g.deposits) parties;
  contracts = all_contracts g;
  elsewhere = all_deposits g - sum_by (held_by g.deposits) parties;
  fees = total - (all_deposits g + all_contracts g);
}

abbrev pub money_at : Setup → Configuration → Money
money_at s g = money_of (columns s) (all_money s) g
