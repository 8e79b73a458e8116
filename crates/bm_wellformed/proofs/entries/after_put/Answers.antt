use Rattle.std.proofs.Common.{rules, ◌≡◌, to_z, of_z}
use mir.Syntax.{w128}
use Rattle.bm_wellformed.proofs.Balances.{next_balance}
use Rattle.bm_wellformed.proofs.entries.after_put.Goals as goal

pub returns-clause-next : goal.returns-clause-next
returns-clause-next c = λ n h.
    let b : to_z w128 (of_z w128 c.args.balance) ≡ c.args.balance = search rules in
    let low = rw b at c.with_puts_less_fee.ensures.low in
    let high = rw b at c.with_puts_less_fee.ensures.high in
    let r : to_z w128 (of_z w128 c.with_puts_less_fee.result) ≡ c.with_puts_less_fee.result = search rules in
    rw r (next_balance n c.args.balance c.with_puts_less_fee.result low high h)
