-- What `plan` and `weigh` show of a run and its contract: the transactions of the contract, as the run's last world has it.
use Rattle.std.specs.Prelude.{◌≡◌, ℕ, ◌+◌, List, ◌++◌, map, sum_by, Option, Some, None, option_map, slice_get}
use Rattle.spec_terms.specs.declared.path.PathStep.{PathStep}
use Rattle.spec_bitcoin.specs.declared.tx.Tx.{Tx}
use Rattle.spec_compiler.specs.ByPath.{position_at, prepared_at}
use Rattle.spec_compiler.specs.Compilation.{path_transactions, compilation}
use Rattle.spec_compiler.specs.Instance.{Instance}
use Rattle.spec_compiler.specs.declared.unsigned.Unsigned.{Unsigned}
use Rattle.spec_run.specs.declared.event.Event.{Event}
use Rattle.spec_run.specs.Compiled.{compiled_instance}
use Rattle.spec_run.specs.Setup.{Setup}
use Rattle.spec_run.specs.Translation.{last_world}
use Rattle.spec_text.specs.PlanText.{compiled_text}
use Rattle.spec_text.specs.RunText.{newline}
use Rattle.spec_tool.specs.declared.weight.Weight.{Weight}
use Rattle.spec_tool.specs.Commands.{Printed, prints}
use Rattle.spec_tool.specs.PsbtText.{not_compiled_line}
use Rattle.spec_tool.specs.WeighText.{plan_value}
use Rattle.spec_tool.specs.Weights.{weight_of, weights}
use Rattle.theory_script.specs.Listed.{at_path, IsInOrder}
use Rattle.theory_script.specs.Money.{KeepsMoney}
use Rattle.theory_weights.specs.Bounds.{IsWithin, WeighsRightly}
use Rattle.theory_weights.specs.Runs.{way_to, FiredInitial, FiredAll, TotalsAreSums}
use Rattle.theory_weights.specs.Sizes.{IsSized}
use Rattle.theory_plan_text.specs.Plan.{plan_of, shown_plan}
use Rattle.theory_commands.specs.Files.{IfWhole}

-- ---- the transactions of a compiled contract

pub record IsPlanned (hash : List ℕ → List ℕ) (instance : Instance) : Type 0 where
  -- there is a transaction for each branch and a script for each position, each once and in the order of the text
  pub in_order : IsInOrder hash instance
  -- for each path it is that of the branch there, with its txid and the digest of each input
  pub paths : (path : List PathStep) → at_path path (compilation hash instance).paths ≡ prepared_at hash instance path
  -- for each position it is that of the output there
  pub scripts : (position : List PathStep)
      → at_path position (compilation hash instance).scripts ≡ option_map (λ p. p.0.output.script) (position_at hash instance position)
  -- each transaction pays out all that it spends but the fee
  pub money : KeepsMoney hash instance

-- ---- plan

-- the lines are those of the transactions and scripts of the compiled contract
pub record Plans (hash : List ℕ → List ℕ) (instance : Instance) (printed : Printed) : Type 0 where
  pub answer : printed ≡ prints 0 (compiled_text (compilation hash instance))
  pub planned : IsPlanned hash instance

abbrev pub PlansIf : (List ℕ → List ℕ) → Option Instance → Printed → Type 0
PlansIf hash None printed = printed ≡ prints 0 not_compiled_line
PlansIf hash (Some instance) printed = Plans hash instance printed

-- of a run and its contract, as the last world has it
pub record ShowsPlan (s : Setup) (es : List Event) (printed : Printed) : Type 0 where
  pub shown : IfWhole s es printed (PlansIf s.hash (compiled_instance s (last_world s es) 0) printed)
  -- the text is read as all that the contract is compiled to, or as what stands in its place
  pub read : plan_of printed.text ≡ Some (shown_plan s es)

-- ---- weigh

-- In the run the initial transaction and those that were fired on the way to a path weigh together what the path's total says.
abbrev pub TotalsBound : Setup → List Event → Instance → Type 0
TotalsBound s es instance = (n : ℕ) (path : List PathStep) (d : Unsigned) (weight total : Weight)
    → slice_get (path_transactions s.hash instance) n ≡ Some (path, d)
    → slice_get (weights s.hash instance) (n + 1) ≡ Some (weight, total)
    → (initial : Tx) (txs : List Tx) → FiredInitial s es 0 initial
    → FiredAll s es 0 (way_to path (map (λ p. p.0) (path_transactions s.hash instance))) txs
    → IsWithin total (weight_of initial + sum_by weight_of txs)

-- the values are those of the transactions of the compiled contract, with their weights
pub record Weighs (s : Setup) (es : List Event) (instance : Instance) (printed : Printed) : Type 0 where
  pub answer : printed ≡ prints 0 (plan_value s.hash 0 (Some instance) ++ newline)
  pub planned : IsPlanned s.hash instance
  -- every full witness lies between the least and the greatest weight, and both are reached
  pub weights : WeighsRightly s.hash instance
  -- they are those that follow from sizes alone
  pub sizes : IsSized s.hash instance
  -- the total of a path is the sum over its way, and bounds what the run has accepted there
  pub totals : TotalsAreSums s.hash instance
  pub bounds : TotalsBound s es instance

abbrev pub WeighsIf : Setup → List Event → Option Instance → Printed → Type 0
WeighsIf s es None printed = printed ≡ prints 0 (plan_value s.hash 0 None ++ newline)
WeighsIf s es (Some instance) printed = Weighs s es instance printed

abbrev pub ShowsWeights : Setup → List Event → Printed → Type 0
ShowsWeights s es printed = IfWhole s es printed (WeighsIf s es (compiled_instance s (last_world s es) 0) printed)
