use Rattle.theory_page.proofs.Formed as shown
use Rattle.theory_page.proofs.pages_are_well_formed.Goals as goal

pub returns : goal.returns
returns c = shown.pages_are_well_formed
