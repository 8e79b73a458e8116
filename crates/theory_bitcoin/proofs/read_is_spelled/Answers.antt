use Rattle.theory_bitcoin.proofs.Top.{read_is_spelled}
use Rattle.theory_bitcoin.proofs.read_is_spelled.Goals as goal

pub returns : goal.returns
returns c = read_is_spelled
