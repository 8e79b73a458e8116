use Rattle.theory_psbt.proofs.Kept.{spelled_is_psbt}
use Rattle.theory_psbt.proofs.spelled_is_psbt.Goals as goal

pub returns : goal.returns
returns c = spelled_is_psbt
