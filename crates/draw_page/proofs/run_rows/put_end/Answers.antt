use Rattle.std.proofs.Common.{arith}
use Rattle.std.proofs.lemmas.Grind.{common_steps}
use Rattle.draw_page.specs.Scenes.{columns_of}
use Rattle.draw_page.proofs.RunLemmas.{end_is}
use Rattle.draw_page.proofs.run_rows.put_end.Goals as goal

pub returns : goal.returns
returns c =
    let e = end_is (columns_of c.args.columns.now) c.args.money.now in
    grind (arith, common_steps, e)
