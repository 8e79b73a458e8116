use Rattle.spec_page.specs.Page.{text_part}
use Rattle.draw_page.proofs.Onto.{put_text}
use Rattle.draw_page.proofs.frames.put_text.Goals as goal

pub returns : goal.returns
unfolding text_part
returns c = put_text c.put_all.result _ _ (text_part c.args.text.now) c.put_all.ensures
