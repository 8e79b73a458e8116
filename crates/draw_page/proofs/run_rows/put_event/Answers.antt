use Rattle.std.proofs.Common.{arith}
use Rattle.std.specs.Option.{option_copied}
use Rattle.std.proofs.lemmas.Grind.{common_steps}
use Rattle.draw_page.specs.Scenes.{columns_of}
use Rattle.draw_page.proofs.RunLemmas.{event_is}
use Rattle.draw_page.proofs.run_rows.put_event.Goals as goal

pub returns : goal.returns
returns c =
    let e = event_is (columns_of c.args.columns.now) c.args.count (option_copied c.args.before) c.args.row.now in
    grind (arith, common_steps, e)
