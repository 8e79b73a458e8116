use Rattle.bm_branch.proofs.Emitted.{copies_more}
use Rattle.bm_branch.proofs.witnesses.put_empty.Goals as goal

pub loop-preserved : goal.loop-preserved
loop-preserved c = copies_more _ _ _ _ c.loop.counter c.args.count c.loop-test.true c.in_ok-put_item.ensures c.loop.invariant
