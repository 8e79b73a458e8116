use Rattle.std.proofs.Common.{arith, append_assoc}
use Rattle.std.proofs.lemmas.Grind.{common_steps}
use Rattle.draw_page.proofs.SheetLemmas.{sheet_body_is}
use Rattle.draw_page.proofs.contract_page.sheet_body.Goals as goal

pub returns : goal.returns
returns c =
    let e = sheet_body_is c.args.title.now c.args.parties.now c.args.sheet.now c.args.text.now in
    grind (arith, common_steps, append_assoc, e)
