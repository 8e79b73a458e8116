use Rattle.std.specs.Prelude.{codes}
use Rattle.spec_page.specs.Html.{classed, said}
use Rattle.draw_page.proofs.Onto.{put_text}
use Rattle.draw_page.proofs.conditions.put_span.Goals as goal

pub returns : goal.returns
returns c = put_text c.put_all.result _ _ (classed (codes "span") c.args.class.now (said c.args.text.now)) c.put_all.ensures
