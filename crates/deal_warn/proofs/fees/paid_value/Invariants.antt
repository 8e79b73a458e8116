use Rattle.std.proofs.Common.{◌≡◌, ◌+◌, drop}
use Rattle.spec_deal.specs.WarnText.{paid_value}
use Rattle.deal_warn.proofs.fees.paid_value.Given as goal

abbrev pub invariant-loop-output : goal.invariant-loop-output
invariant-loop-output l = l.sum + paid_value (drop l.output-index l.outputs) ≡ paid_value l.outputs
