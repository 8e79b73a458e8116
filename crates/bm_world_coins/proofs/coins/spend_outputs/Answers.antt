use Rattle.std.proofs.Common.{sym, rules}
use Rattle.theory_world.proofs.Ledger.Spend.{spend-none}
use Rattle.bm_world_coins.proofs.Making.{spend_more}
use Rattle.bm_world_coins.proofs.coins.spend_outputs.Goals as goal

pub loop-number-init : goal.loop-number-init
loop-number-init c = sym (spend-none 0 c.args.outputs.now.items)

pub loop-number-preserved : goal.loop-number-preserved
loop-number-preserved c =
    spend_more _ _ _ c.args.spent.now c.loop-number.number-index _ c.loop-number.invariant c.loop-number-test.true (search rules) c.spend_output.ensures
