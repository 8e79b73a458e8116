use Rattle.theory_bitcoin.proofs.Apart.{outputs_once}
use Rattle.theory_bitcoin.proofs.outputs_once.Goals as goal

pub returns : goal.returns
returns c = outputs_once
