use Rattle.theory_bitcoin.proofs.Apart.{preimage_once}
use Rattle.theory_bitcoin.proofs.preimage_once.Goals as goal

pub returns : goal.returns
returns c = preimage_once
