use Rattle.std.specs.Prelude.{[], codes}
use Rattle.spec_page.specs.Html.{element, said}
use Rattle.draw_page.proofs.Onto.{put_text}
use Rattle.draw_svg.proofs.svg.put_title.Goals as goal

pub returns : goal.returns
returns c = put_text c.put_all.result _ _ (element (codes "title") [] (said c.args.title.now)) c.put_all.ensures
