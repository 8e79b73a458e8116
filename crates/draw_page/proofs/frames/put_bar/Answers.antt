use Rattle.std.proofs.Common.{◌∙◌, ap}
use Rattle.std.specs.Prelude.{codes}
use Rattle.draw_page.specs.Frames.{framed}
use Rattle.draw_page.proofs.Onto.{put_same}
use Rattle.draw_page.proofs.PageLemmas.{bar_is}
use Rattle.draw_page.proofs.frames.put_bar.Goals as goal

pub returns : goal.returns
returns c =
    put_same c.put_framed.result _ _ _ _
    (ap (λ text. framed (codes "<div class=\"bar\" title=\"where the money is\">") text (codes "</div>")) (c.deref.ensures.value ∙ c.in_ok-pieces.ensures)
    ∙ bar_is c.args.parties.now c.args.money.now)
    c.put_framed.ensures
