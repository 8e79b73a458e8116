use Rattle.theory_page.proofs.Left as shown
use Rattle.theory_page.proofs.folds_have_moments.Goals as goal

pub returns : goal.returns
returns c = shown.folds_have_moments
