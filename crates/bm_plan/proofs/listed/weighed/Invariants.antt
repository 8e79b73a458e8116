use Rattle.std.proofs.Common.{◌≡◌, ◌++◌, drop, map}
use Rattle.bm_plan.specs.Listed.{listed_weight}
use Rattle.bm_plan.proofs.listed.weighed.Given as goal

abbrev pub invariant-loop-path : goal.invariant-loop-path
invariant-loop-path l =
    l.all.items ++ map (listed_weight l.checked l.scripts) (drop l.path-index l.paths) ≡ map (listed_weight l.checked l.scripts) l.paths
