use Rattle.draw_page.specs.Frames.{heading}
use Rattle.draw_page.proofs.Onto.{put_text}
use Rattle.draw_page.proofs.frames.put_heading_text.Goals as goal

pub returns : goal.returns
returns c = put_text c.put_all.result _ _ (heading c.args.title.now c.args.worth.now) c.put_all.ensures
