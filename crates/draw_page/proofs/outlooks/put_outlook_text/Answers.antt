use Rattle.std.specs.Prelude.{◌∷◌, [], codes}
use Rattle.spec_page.specs.Html.{element, said}
use Rattle.draw_page.proofs.Onto.{put_text}
use Rattle.draw_page.proofs.outlooks.put_outlook_text.Goals as goal

pub returns : goal.returns
returns c =
    put_text c.put_all.result _ _
    (element (codes "p") ((codes "class", c.args.shown.now) ∷ (codes "data-at", c.args.at.now) ∷ []) (said c.args.text.now))
    c.put_all.ensures
