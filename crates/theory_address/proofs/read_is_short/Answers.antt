use Rattle.theory_address.proofs.Addresses as proof
use Rattle.theory_address.proofs.read_is_short.Goals as goal

pub returns : goal.returns
returns c = proof.read_is_short
