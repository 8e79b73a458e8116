use Rattle.std.proofs.Common.{rules, ◌≤◌, ◌+◌, arith}
use Rattle.spec_data.specs.Ranges.{max_money}
use Rattle.bm_calculus.proofs.Gone.{gone_empty, part_within}
use Rattle.bm_calculus.proofs.deposits.Deposits.gone_value.Goals as goal

pub overflow_add-total : goal.overflow_add-total
overflow_add-total c =
    let part =
    part_within c.args.self.now c.args.numbers.now c.loop-rest.rest.now c.loop-rest.total c.further_value-total.result
    c.in-len1-up.len_at_least c.loop-rest.invariant c.further_value-total.ensures in
    let few : c.loop-rest.total + c.further_value-total.result ≤ max_money = omega (arith, part, c.requires.within) in
    search rules

pub returns : goal.returns
returns c =
    let none = gone_empty c.args.self.now c.loop-rest.rest.now c.in_default.len_below in omega (arith, none, c.loop-rest.invariant)
