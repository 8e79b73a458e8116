use Rattle.theory_bitcoin.proofs.Apart.{stripped_once}
use Rattle.theory_bitcoin.proofs.stripped_once.Goals as goal

pub returns : goal.returns
returns c = stripped_once
