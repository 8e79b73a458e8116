use Rattle.theory_psbt.proofs.Reading.{one_psbt}
use Rattle.theory_psbt.proofs.one_psbt.Goals as goal

pub returns : goal.returns
returns c = one_psbt
