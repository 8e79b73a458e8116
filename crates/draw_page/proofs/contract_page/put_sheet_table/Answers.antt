use Rattle.std.proofs.Common.{arith, ◌∷◌, []}
use Rattle.std.proofs.lemmas.Grind.{common_steps}
use Rattle.spec_page.specs.Page.{sheet_table}
use Rattle.draw_page.specs.Frames.{sheet_body_element}
use Rattle.draw_page.proofs.PageLemmas.{table_is}
use Rattle.draw_page.proofs.contract_page.put_sheet_table.Goals as goal

pub returns : goal.returns
unfolding sheet_table
returns c =
    let e = table_is c.args.parties.now (sheet_body_element c.args.parties.now c.args.sheet.now ∷ []) in
    grind (arith, common_steps, e)
