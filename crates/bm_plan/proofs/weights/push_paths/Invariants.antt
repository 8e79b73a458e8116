use Rattle.std.proofs.Common.{◌≡◌, ◌++◌, map, drop}
use Rattle.serde_json.specs.View.{view}
use Rattle.spec_tool.specs.WeighText.{named_path, transaction_values}
use Rattle.bm_plan.specs.Seen.{seen, plain}
use Rattle.bm_plan.proofs.weights.push_paths.Given as goal

abbrev pub invariant-loop-path : goal.invariant-loop-path
invariant-loop-path l =
    map seen (map view l.values.items) ++ map plain (transaction_values (map named_path (drop l.path-index l.paths)) l.rest)
    ≡ map seen (map view l.initial.values.items) ++ map plain (transaction_values (map named_path l.paths) l.weights)
