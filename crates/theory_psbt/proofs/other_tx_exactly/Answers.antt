use Rattle.theory_psbt.proofs.Combining.{other_tx_exactly}
use Rattle.theory_psbt.proofs.other_tx_exactly.Goals as goal

pub returns : goal.returns
returns c = other_tx_exactly
