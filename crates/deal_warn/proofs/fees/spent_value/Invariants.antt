use Rattle.std.proofs.Common.{◌≡◌, ◌+◌, drop}
use Rattle.deal_warn.specs.Warned.{spent_by}
use Rattle.deal_warn.proofs.fees.spent_value.Given as goal

abbrev pub invariant-loop-input : goal.invariant-loop-input
invariant-loop-input l = l.sum + spent_by (drop l.input-index l.inputs) ≡ spent_by l.inputs
