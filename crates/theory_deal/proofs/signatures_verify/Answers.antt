use Rattle.theory_deal.proofs.Verified as proof
use Rattle.theory_deal.proofs.signatures_verify.Goals as goal

pub returns : goal.returns
returns c = proof.signatures_verify
