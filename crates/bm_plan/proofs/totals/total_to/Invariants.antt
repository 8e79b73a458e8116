use Rattle.std.proofs.Common.{◌≡◌, drop}
use Rattle.spec_tool.specs.Weights.{total_to}
use Rattle.bm_plan.proofs.totals.total_to.Given as goal

abbrev pub invariant-loop-path : goal.invariant-loop-path
invariant-loop-path l = total_to l.to l.sum (drop l.path-index l.all) ≡ total_to l.to l.fn.init l.all
