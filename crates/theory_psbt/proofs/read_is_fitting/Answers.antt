use Rattle.theory_psbt.proofs.ReadFits.{read_fits}
use Rattle.theory_psbt.proofs.read_is_fitting.Goals as goal

pub returns : goal.returns
returns c = read_fits
