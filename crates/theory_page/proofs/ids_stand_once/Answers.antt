use Rattle.theory_page.proofs.Once as shown
use Rattle.theory_page.proofs.ids_stand_once.Goals as goal

pub returns : goal.returns
returns c = shown.ids_stand_once
