use Rattle.spec_page.specs.Page.{bar_piece}
use Rattle.draw_page.proofs.Onto.{put_text}
use Rattle.draw_page.proofs.frames.put_bar_piece.Goals as goal

pub returns : goal.returns
returns c = put_text c.put_all.result _ _ (bar_piece c.args.look.now c.args.name.now c.args.value) c.put_all.ensures
