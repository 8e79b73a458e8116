use Rattle.theory_psbt.proofs.Reading.{read_is_spelled}
use Rattle.theory_psbt.proofs.read_is_spelled.Goals as goal

pub returns : goal.returns
returns c = read_is_spelled
