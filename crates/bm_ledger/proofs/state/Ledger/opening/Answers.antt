use Rattle.std.proofs.Common.{length}
use Rattle.bm_ledger.specs.Ordered.{AreInOrder}
use Rattle.bm_ledger.proofs.Numbering.{in_order-first}
use Rattle.bm_ledger.proofs.state.Ledger.opening.Goals as goal

pub invariant_of-result : goal.invariant_of-result
invariant_of-result g c =
    let order : AreInOrder 0 (length c.args.outputs.now) c.in_ok-live.live = rw c.in_ok-live.ensures (in_order-first c.in_ok-txid.txid c.args.outputs.now) in
    (order, c.requires)
