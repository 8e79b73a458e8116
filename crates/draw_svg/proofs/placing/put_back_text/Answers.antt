use Rattle.std.specs.Prelude.{◌∷◌, [], codes}
use Rattle.std.specs.Fmt.{decimal}
use Rattle.spec_page.specs.Html.{element, nothing}
use Rattle.draw_page.proofs.Onto.{put_text}
use Rattle.draw_svg.proofs.placing.put_back_text.Goals as goal

pub returns : goal.returns
returns c = put_text c.put_all.result _ _ (element (codes "rect") ((codes "class", c.args.look.now) ∷ (codes "x", codes "0") ∷ (codes "y", decimal c.args.y) ∷ (codes "width", decimal c.args.width) ∷ (codes "height", decimal c.args.height) ∷ []) nothing) c.put_all.ensures
