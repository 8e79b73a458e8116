use Rattle.std.proofs.Common.{◌<◌, length, arith}
use Rattle.std.proofs.lemmas.Grind.{common_steps}
use Rattle.draw_page.proofs.RunLemmas.{note_is}
use Rattle.draw_page.proofs.run_words.note_text.Goals as goal

pub returns : goal.returns
returns c =
    let some : 0 < length c.args.note.now = grind (arith, common_steps) in
    let e = note_is c.args.look c.args.note.now some in
    grind (arith, common_steps, e)
