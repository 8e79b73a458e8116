use Rattle.std.specs.Prelude.{◌∷◌, [], codes}
use Rattle.spec_page.specs.Figures.{sum_text}
use Rattle.spec_page.specs.Html.{element, said}
use Rattle.draw_page.proofs.Onto.{put_text}
use Rattle.draw_page.proofs.sums.put_sum_text.Goals as goal

pub returns : goal.returns
returns c =
    put_text c.put_all.result _ _
    (element (codes "i") ((codes "class", c.args.end.now) ∷ (codes "data-at", c.args.at.now) ∷ []) (said (sum_text c.args.value)))
    c.put_all.ensures
