use Rattle.bm_world_coins.specs.Coined.{position_by}
use Rattle.bm_world_coins.proofs.Making.{made_more}
use Rattle.bm_world_coins.proofs.coins.add_outputs.Goals as goal

pub loop-k-preserved : goal.loop-k-preserved
loop-k-preserved c = made_more (position_by c.args.positions.now) c.args.txid.now c.args.outputs.now.items c.loop-k.outputs.items
    c.add_output.new.outputs.items c.args.new.now c.loop-k.k c.index-new-k.result c.loop-k.invariant c.loop-k-test.true c.index-new-k.is c.in_default.ensures.ok
