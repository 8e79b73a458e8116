use Rattle.std.proofs.Common.{◌≡◌, ◌≤◌, take}
use Rattle.spec_data.specs.Ranges.{max_money}
use Rattle.spec_run.specs.Giving.{value_out}
use Rattle.bm_world_spend.proofs.refusing.value_out.Given as goal

abbrev pub invariant-loop-output : goal.invariant-loop-output
invariant-loop-output l = (l.total ≡ value_out (take l.output-index l.outputs)) × (l.total ≤ max_money)
