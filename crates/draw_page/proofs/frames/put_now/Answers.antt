use Rattle.std.proofs.Common.{◌∙◌, ap, arith}
use Rattle.std.specs.Prelude.{codes, ◌≡◌}
use Rattle.std.proofs.lemmas.Grind.{common_steps}
use Rattle.spec_page.specs.Page.{outlook_elements, outlook_texts}
use Rattle.draw_page.specs.Frames.{framed}
use Rattle.draw_page.specs.Texts.{lines_text}
use Rattle.draw_page.proofs.Onto.{put_same}
use Rattle.draw_page.proofs.PageLemmas.{now_is}
use Rattle.draw_page.proofs.frames.put_now.Goals as goal

pub returns : goal.returns
returns c =
    let texts : c.deref.result.now ≡ lines_text (outlook_elements (outlook_texts c.args.rows.now)) = grind (arith, common_steps) in
    put_same c.put_framed.result _ _ _ _
    (ap (λ text. framed (codes "<div class=\"now\"><b>can now:</b> ") text (codes "</div>")) texts ∙ now_is c.args.rows.now)
    c.put_framed.ensures
