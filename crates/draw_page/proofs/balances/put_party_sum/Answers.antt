use Rattle.std.proofs.Common.{arith}
use Rattle.std.specs.Option.{option_copied}
use Rattle.std.proofs.lemmas.Grind.{common_steps}
use Rattle.draw_page.proofs.RunLemmas.{party_sum_is}
use Rattle.draw_page.proofs.balances.put_party_sum.Goals as goal

pub returns : goal.returns
returns c =
    let e = party_sum_is c.args.actor.now (option_copied c.args.before) c.args.now.now c.args.column c.args.party.now in
    grind (arith, common_steps, e)
