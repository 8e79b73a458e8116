use Rattle.theory_psbt.proofs.Writing.{written_is_spelled}
use Rattle.theory_psbt.proofs.written_is_spelled.Goals as goal

pub returns : goal.returns
returns c = written_is_spelled
