use Rattle.bm_plan.proofs.Json.Values.{one_told}
use Rattle.bm_plan.proofs.weights.push_paths.Goals as goal

pub loop-path-preserved : goal.loop-path-preserved
loop-path-preserved c =
    one_told c.loop-path.values.items c.push.new.self.items c.in_ok-path_value.field-0 c.args.paths.now c.loop-path.path-index c.loop-path-item.result
    c.in-Some.weights.now c.loop-path.rest.now c.in-Some.more.now _ c.loop-path-test.true c.loop-path-item.is c.in-Some.ensures.cases.0
    c.in_ok-push.ensures.items c.in_ok-path_value.ensures c.loop-path.invariant
