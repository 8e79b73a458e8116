use Rattle.bm_world_coins.specs.Coined.{position_by}
use Rattle.bm_world_coins.proofs.Sync.{append_leaves, IsAppended}
use Rattle.bm_world_coins.proofs.coins.Coins.append.Goals as goal

leaves : (c : goal.After-spend_outputs) → IsAppended c.args.self.now c.spend.new.self c.spend_outputs.new.outputs.items c.args.spent.now
    c.args.txid.now (position_by c.args.positions.now) c.args.tx.now
leaves c = rw (← c.self.view_is) (append_leaves _ _ _ _ _ _ _ (position_by c.args.positions.now) c.args.tx.now c.self.invariant
    (rw (← c.self.view_is) at c.requires.passed) (rw (← c.self.view_is) at c.requires.numbers)
    (rw c.as_slice.ensures at c.in_ok-add_outputs.ensures.ok) c.in_default.ensures.ok c.spend_outputs.ensures)

pub invariant_of-self-2 : goal.invariant_of-self-2
invariant_of-self-2 c = (leaves c).synced

pub returns-clause-ok : goal.returns-clause-ok
returns-clause-ok c = λ i. record { tip = (leaves c).tip i; outputs = (leaves c).outputs i }
