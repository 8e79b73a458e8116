use Rattle.theory_deal.proofs.Shapes as proof
use Rattle.theory_deal.proofs.shape_exactly.Goals as goal

pub returns : goal.returns
returns c = proof.shape_exactly
