use Rattle.theory_psbt.proofs.ListedFits.{listed_fits}
use Rattle.theory_psbt.proofs.listed_is_fitting.Goals as goal

pub returns : goal.returns
returns c = listed_fits
