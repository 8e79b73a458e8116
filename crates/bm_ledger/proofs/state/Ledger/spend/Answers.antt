use Rattle.std.proofs.Common.{◌+◌, ◌<◌, length, map, ap, arith}
use Rattle.spec_bitcoin.specs.Live.{Chain}
use Rattle.bm_ledger.specs.Ordered.{AreInOrder}
use Rattle.bm_ledger.proofs.Numbering.{in_order-more, in_order-without}
use Rattle.bm_ledger.proofs.Rows.{none_repeats, none_missing}
use Rattle.bm_ledger.proofs.Spending.{appended}
use Rattle.bm_ledger.proofs.state.Ledger.spend.Goals as goal

pub invariant_of-self-2 : goal.invariant_of-self-2
invariant_of-self-2 c =
    let more = in_order-more c.self.inside.births c.args.txid.now c.self.inside.outputs c.args.tx.now.outputs c.self.invariant.0 in
    let left = in_order-without 0 (c.self.inside.births + length c.args.tx.now.outputs) (map (λ i. i.prev) c.args.tx.now.inputs) _ more in
    let order : AreInOrder 0 (c.self.inside.births + c.len.result) c.replace_spent.new.live = rw (c.in_ok-replace_spent.ensures.ok, c.len.ensures) left in
    let room = c.requires.room in
    let same = ap (λ (s : Chain). s.births) c.self.view_is in
    let count = c.len.ensures in
    let fits : c.self.inside.births + c.len.result < 4294967296 = omega arith in
    (order, fits)

pub returns-clause-ok : goal.returns-clause-ok
returns-clause-ok c =
    let passed = rw (← c.self.view_is) at c.requires.passed in
    rw (← c.self.view_is) (appended _ c.args.tx.now c.args.txid.now _ c.replace_spent.new.live
    (none_missing _ _ c.args.tx.now passed)
    (none_repeats _ _ c.args.tx.now passed)
    c.in_ok-replace_spent.ensures.ok
    (ap (λ n. c.self.inside.births + n) c.len.ensures))
