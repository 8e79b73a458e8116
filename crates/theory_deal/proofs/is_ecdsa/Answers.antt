use Rattle.theory_deal.proofs.Ecdsa as proof
use Rattle.theory_deal.proofs.is_ecdsa.Goals as goal

pub returns : goal.returns
returns c = proof.is_ecdsa
