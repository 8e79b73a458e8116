use Rattle.std.specs.Prelude.{◌∷◌, [], codes}
use Rattle.std.specs.Fmt.{decimal}
use Rattle.spec_page.specs.Html.{element, nothing}
use Rattle.draw_page.proofs.Onto.{put_text}
use Rattle.draw_svg.proofs.elements.put_frame_text.Goals as goal

pub returns : goal.returns
returns c = put_text c.put_all.result _ _ (element (codes "rect") ((codes "class", c.args.class.now) ∷ (codes "x", decimal c.args.x) ∷ (codes "y", decimal c.args.y) ∷ (codes "width", decimal c.args.width) ∷ (codes "height", codes "16") ∷ (codes "rx", codes "8") ∷ []) nothing) c.put_all.ensures
