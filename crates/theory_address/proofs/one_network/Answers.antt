use Rattle.theory_address.proofs.Addresses as proof
use Rattle.theory_address.proofs.one_network.Goals as goal

pub returns : goal.returns
returns c = proof.one_network
