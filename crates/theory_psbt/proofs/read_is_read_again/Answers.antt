use Rattle.theory_psbt.proofs.ReadFits.{read_fits}
use Rattle.theory_psbt.proofs.Writing.{written_is_read}
use Rattle.theory_psbt.proofs.read_is_read_again.Goals as goal

pub returns : goal.returns
returns c = λ bytes p are e small. written_is_read p (read_fits bytes p are e) small
