use Rattle.std.proofs.Common.{arith}
use Rattle.std.proofs.lemmas.Grind.{common_steps}
use Rattle.draw_page.proofs.SheetLemmas.{sheet_page_is}
use Rattle.draw_page.proofs.contract_page.write_contract_page.Goals as goal

pub returns : goal.returns
returns c =
    let e = sheet_page_is c.args.title.now c.args.parties.now c.args.sheet.now c.args.text.now in
    grind (arith, common_steps, e)
