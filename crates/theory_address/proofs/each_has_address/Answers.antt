use Rattle.theory_address.proofs.Addresses as proof
use Rattle.theory_address.proofs.each_has_address.Goals as goal

pub returns : goal.returns
returns c = proof.each_has_address
