use Rattle.std.proofs.Common.{arith, append_assoc}
use Rattle.std.specs.Option.{option_copied}
use Rattle.std.proofs.lemmas.Grind.{common_steps}
use Rattle.draw_page.specs.Scenes.{columns_of}
use Rattle.draw_page.proofs.RunLemmas.{last_sums_are}
use Rattle.draw_page.proofs.balances.last_sums.Goals as goal

pub returns : goal.returns
returns c =
    let e = last_sums_are (columns_of c.args.columns.now) (option_copied c.args.before) c.args.now.now in
    grind (arith, common_steps, append_assoc, e)
