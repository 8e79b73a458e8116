use Rattle.bm_ledger.proofs.Thinning.{forgotten}
use Rattle.bm_ledger.proofs.outputs.indexed.forget_numbers.Goals as goal

pub loop-input-preserved : goal.loop-input-preserved
loop-input-preserved c = forgotten _ _ _ c.args.inputs.now c.loop-input.input-index c.input-item.result c.loop-input.invariant
    c.loop-input-test.true c.input-item.is c.swap_remove.ensures.updates.0
