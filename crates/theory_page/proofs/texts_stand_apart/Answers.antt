use Rattle.theory_page.proofs.SvgApart as shown
use Rattle.theory_page.proofs.texts_stand_apart.Goals as goal

pub returns : goal.returns
returns c = shown.texts_stand_apart
