use Rattle.theory_address.proofs.Addresses as proof
use Rattle.theory_address.proofs.addresses_are_read_back.Goals as goal

pub returns : goal.returns
returns c = proof.addresses_are_read_back
