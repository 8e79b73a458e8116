use Rattle.bm_ledger.proofs.Births.{next_is_new, born_more}
use Rattle.bm_ledger.proofs.Numbering.{in_order-so_far}
use Rattle.bm_ledger.proofs.outputs.add_outputs.Goals as goal

pub add_output-requires-clause-order : goal.add_output-requires-clause-order
add_output-requires-clause-order c =
    in_order-so_far c.args.births c.args.txid.now c.args.live.now c.loop-k.live c.args.outputs.now c.loop-k.k c.requires.order
    c.loop-k.invariant c.loop-k-test.true

pub add_output-requires-clause-new : goal.add_output-requires-clause-new
add_output-requires-clause-new c =
    next_is_new c.args.births c.args.txid.now _ _ c.args.outputs.now c.loop-k.k c.requires.new c.loop-k.invariant c.loop-k-test.true

pub loop-k-preserved : goal.loop-k-preserved
loop-k-preserved c = born_more c.args.births c.args.txid.now c.args.live.now c.loop-k.live c.add_output.new.live c.args.outputs.now
    c.loop-k.k c.index-outputs-k.result c.loop-k.invariant c.loop-k-test.true c.index-outputs-k.is c.in_default.ensures.ok
