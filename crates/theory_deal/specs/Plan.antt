-- What is claimed of the plan of a deal next to that of a run.
use Rattle.std.specs.Prelude.{◌≡◌, ℕ, List, filter, Option}
use Rattle.spec_compiler.specs.Keyed.Keys.{Keys, by_plan}
use Rattle.spec_compiler.specs.Keyed.Instance.{Instance}
use Rattle.spec_compiler.specs.Keyed.Statements.{AreKeyDeposits}
use Rattle.spec_compiler.specs.Keyed.Compilation as keyed
use Rattle.spec_compiler.specs.Compilation.{compilation}
use Rattle.spec_text.specs.PlanText.{compiled_text}
use Rattle.spec_deal.specs.DealText.{PlanLine, plan_lines, lines_text}

-- the lines that plans of runs have, too
abbrev pub shared_lines : List PlanLine → List PlanLine
shared_lines lines = filter (λ (line : PlanLine). line.of_runs) lines

-- without its deposits, payees and signers, the plan of a deal is the text of what the contract is compiled to, where all deposits are of
-- keys; by the key plan, that of a run
pub record IsPlanOfRuns (hash : List ℕ → List ℕ) (network : Option (List ℕ)) (keys : Keys) (s : Instance) : Type 0 where
  pub at_any_keys : AreKeyDeposits keys
      → lines_text (shared_lines (plan_lines hash network keys s)) ≡ compiled_text (keyed.compilation hash keys s)
  pub at_the_plan : lines_text (shared_lines (plan_lines hash network by_plan s)) ≡ compiled_text (compilation hash s)

-- whatever network's addresses it shows
abbrev pub PlanOfRuns : Type 0
PlanOfRuns = (hash : List ℕ → List ℕ) (network : Option (List ℕ)) (keys : Keys) (s : Instance) → IsPlanOfRuns hash network keys s
