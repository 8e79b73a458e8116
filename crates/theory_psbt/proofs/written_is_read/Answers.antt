use Rattle.theory_psbt.proofs.Writing.{written_is_read}
use Rattle.theory_psbt.proofs.written_is_read.Goals as goal

pub returns : goal.returns
returns c = written_is_read
