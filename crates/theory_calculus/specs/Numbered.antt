-- What is claimed of legal runs and of the numbers that name deposits and active contracts.
use Rattle.std.specs.Prelude.{◌≡◌, ◌↔◌, ℕ, nat_lt, not, List, map, true}
use Rattle.std.specs.List.{list_all}
use Rattle.spec_data.specs.Lists.{has_number}
use Rattle.spec_terms.specs.Advert.{Advert}
use Rattle.spec_calculus.specs.declared.step.Step.{Step}
use Rattle.spec_calculus.specs.Configuration.{Configuration}
use Rattle.spec_calculus.specs.Steps.{Legal, IsLegalRun, after_steps, opening}
use Rattle.spec_calculus.specs.InOrder.{are_ascending}

-- ---- legal runs

-- steps are a legal run from g to h exactly where each may be taken after those before it, and they make h of g
abbrev pub LegalRunsAreOne : Type 0
LegalRunsAreOne =
    (g : Configuration) (steps : List Step) (h : Configuration) → IsLegalRun g steps h ↔ (Legal g steps × (h ≡ after_steps g steps))

-- ---- numbers

-- the numbers of the deposits, in order
abbrev pub deposit_numbers : Configuration → List ℕ
deposit_numbers g = map (λ d. d.number) g.deposits

-- the numbers of the active contracts, in order
abbrev pub contract_numbers : Configuration → List ℕ
contract_numbers g = map (λ a. a.number) g.active

-- how deposits and active contracts are numbered
pub record IsNumbered (g : Configuration) : Type 0 where
  -- both stand by ascending numbers, and so no two deposits and no two contracts have the same
  pub deposits : are_ascending (deposit_numbers g) ≡ true
  pub active : are_ascending (contract_numbers g) ≡ true
  -- all are below the next number
  pub deposits_below : list_all (λ n. nat_lt n g.next) (deposit_numbers g) ≡ true
  pub active_below : list_all (λ n. nat_lt n g.next) (contract_numbers g) ≡ true
  -- no deposit has the number of a contract
  pub apart : list_all (λ n. not (has_number n (contract_numbers g))) (deposit_numbers g) ≡ true

-- deposits and contracts are so numbered wherever a legal run leads to from an opening
abbrev pub NumbersStandApart : Type 0
NumbersStandApart =
    (parties honest : List (List ℕ)) (deposits : List (List ℕ × ℕ)) (contracts : List Advert) (steps : List Step) (g : Configuration)
    → IsLegalRun (opening parties honest deposits contracts) steps g → IsNumbered g
