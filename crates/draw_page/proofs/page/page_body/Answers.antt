use Rattle.std.proofs.Common.{arith, append_assoc}
use Rattle.std.proofs.lemmas.Grind.{common_steps}
use Rattle.draw_page.proofs.PageLemmas.{whole_body_is}
use Rattle.draw_page.proofs.page.page_body.Goals as goal

pub returns : goal.returns
returns c =
    let e = whole_body_is c.args.title.now c.args.picture.now c.args.money.now in
    grind (arith, common_steps, append_assoc, e)
