-- What is known of each configuration: legal steps have led to it from an opening.
use Rattle.std.specs.Prelude.{ℕ, ◌≤◌, List}
use Rattle.std.specs.List.{AllByRecursion}
use Rattle.spec_data.specs.Ranges.{max_money}
use Rattle.spec_terms.specs.Advert.{Advert}
use Rattle.spec_terms.specs.Faults.{IsWellFormed}
use Rattle.spec_calculus.specs.declared.step.Step.{Step}
use Rattle.spec_calculus.specs.Configuration.{Configuration}
use Rattle.spec_calculus.specs.Steps.{opening, IsLegalRun}
use Rattle.theory_calculus.specs.Money.{total_money}

-- these steps lead to it from this opening, whose contracts have passed the check and which has no more than all money
pub record IsReached (g : Configuration) : Type 0 where
  pub parties : List (List ℕ)
  pub honest : List (List ℕ)
  pub deposits : List (List ℕ × ℕ)
  pub contracts : List Advert
  pub steps : List Step
  pub checked : AllByRecursion IsWellFormed contracts
  pub within : total_money (opening parties honest deposits contracts) ≤ max_money
  pub legal : IsLegalRun (opening parties honest deposits contracts) steps g
