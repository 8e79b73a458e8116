use Rattle.std.specs.Prelude.{◌∷◌, [], codes}
use Rattle.spec_page.specs.Html.{element, nothing}
use Rattle.draw_page.proofs.Onto.{put_text}
use Rattle.draw_svg.proofs.elements.put_outline.Goals as goal

pub returns : goal.returns
returns c = put_text c.put_all.result _ _ (element (codes "path") ((codes "class", c.args.class.now) ∷ (codes "d", c.args.outline.now) ∷ []) nothing) c.put_all.ensures
