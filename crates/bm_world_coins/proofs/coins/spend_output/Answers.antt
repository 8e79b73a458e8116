use Rattle.std.proofs.Common.{sym, rules}
use Rattle.bm_world_coins.proofs.Making.{spent_at, spent_past}
use Rattle.bm_world_coins.proofs.coins.spend_output.Goals as goal

pub returns-then-place-len : goal.returns-then-place-len
returns-then-place-len c = spent_at c.args.number c.args.outputs.now.items c.index_mut.result.now _ (search rules) c.index_mut.ensures.value c.spend.ensures

pub returns-else-place-len : goal.returns-else-place-len
returns-else-place-len c = sym (spent_past 0 c.args.number c.args.outputs.now.items (search rules))
