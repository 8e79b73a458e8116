use Rattle.spec_page.specs.Page.{slider_part}
use Rattle.draw_page.proofs.Onto.{put_text}
use Rattle.draw_page.proofs.frames.put_slider.Goals as goal

pub returns : goal.returns
unfolding slider_part
returns c = put_text c.put_all.result _ _ (slider_part c.args.last) c.put_all.ensures
