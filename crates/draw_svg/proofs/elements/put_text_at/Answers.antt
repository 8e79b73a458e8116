use Rattle.std.specs.Prelude.{◌∷◌, [], codes}
use Rattle.std.specs.Fmt.{decimal}
use Rattle.spec_page.specs.Html.{element, said}
use Rattle.draw_page.proofs.Onto.{put_text}
use Rattle.draw_svg.proofs.elements.put_text_at.Goals as goal

pub returns : goal.returns
returns c = put_text c.put_all.result _ _ (element (codes "text") ((codes "class", c.args.class.now) ∷ (codes "x", decimal c.args.x) ∷ (codes "y", decimal c.args.y) ∷ (codes "textLength", decimal c.args.length) ∷ []) (said c.args.text.now)) c.put_all.ensures
