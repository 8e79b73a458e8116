use Rattle.std.proofs.Common.{◌≡◌, ◌++◌, map, drop}
use Rattle.deal_plan.specs.PsbtParts.{input_for}
use Rattle.deal_plan.proofs.psbts.inputs_for.Given as goal

-- what is there, and what is left, are the whole
abbrev pub invariant-loop-one : goal.invariant-loop-one
invariant-loop-one l = l.made.items ++ map input_for (drop l.one-index l.inputs) ≡ map input_for l.inputs
