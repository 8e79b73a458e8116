use Rattle.theory_page.proofs.SvgTold as shown
use Rattle.theory_page.proofs.svg_tells_all.Goals as goal

pub returns : goal.returns
returns c = shown.svg_tells_all
