use Rattle.theory_psbt.proofs.Reading.{spelled_is_read}
use Rattle.theory_psbt.proofs.spelled_is_read.Goals as goal

pub returns : goal.returns
returns c = spelled_is_read
