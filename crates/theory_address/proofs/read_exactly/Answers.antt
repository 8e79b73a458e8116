use Rattle.theory_address.proofs.Addresses as proof
use Rattle.theory_address.proofs.read_exactly.Goals as goal

pub returns : goal.returns
returns c = proof.read_exactly
