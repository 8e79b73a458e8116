use Rattle.std.proofs.Common.{◌≡◌, ◌++◌, drop}
use Rattle.spec_tool.specs.Weights.{with_totals, all_weights}
use Rattle.bm_plan.proofs.totals.all_weights.Given as goal

abbrev pub invariant-loop-path : goal.invariant-loop-path
invariant-loop-path l = l.weights.items ++ with_totals l.init l.all (drop l.path-index l.all) ≡ all_weights l.init l.all
