use Rattle.theory_deal.proofs.Signing as proof
use Rattle.theory_deal.proofs.held_and_missing.Goals as goal

pub returns : goal.returns
returns c = proof.held_and_missing
