use Rattle.std.proofs.Common.{arith, append_assoc}
use Rattle.std.proofs.lemmas.Grind.{common_steps}
use Rattle.draw_page.proofs.PageLemmas.{head_is}
use Rattle.draw_page.proofs.page.page_head.Goals as goal

pub returns : goal.returns
returns c =
    let e = head_is c.args.title.now in
    grind (arith, common_steps, append_assoc, e)
