use Rattle.theory_deal.proofs.ReadSignatures as proof
use Rattle.theory_deal.proofs.signatures_are_shaped.Goals as goal

pub returns : goal.returns
returns c = proof.signatures_are_shaped
