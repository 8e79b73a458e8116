use Rattle.spec_page.specs.Svg.{paper_element}
use Rattle.draw_page.proofs.Onto.{put_text}
use Rattle.draw_svg.proofs.svg.put_paper.Goals as goal

pub returns : goal.returns
returns c = put_text c.put_all.result _ _ (paper_element c.args.width c.args.height) c.put_all.ensures
