use Rattle.theory_deal.proofs.Whole as proof
use Rattle.theory_deal.proofs.finishes_exactly.Goals as goal

pub returns : goal.returns
returns c = proof.finishes_exactly
