use Rattle.std.proofs.Common.{arith}
use Rattle.std.proofs.lemmas.Grind.{common_steps}
use Rattle.draw_page.proofs.PageLemmas.{page_is}
use Rattle.draw_page.proofs.page.write_page.Goals as goal

pub returns : goal.returns
returns c =
    let e = page_is c.args.title.now c.args.picture.now in
    grind (arith, common_steps, e)
