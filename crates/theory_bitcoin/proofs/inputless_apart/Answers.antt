use Rattle.theory_bitcoin.proofs.Apart.{inputless_apart}
use Rattle.theory_bitcoin.proofs.inputless_apart.Goals as goal

pub returns : goal.returns
returns c = inputless_apart
