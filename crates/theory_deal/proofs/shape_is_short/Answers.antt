use Rattle.theory_deal.proofs.Shapes as proof
use Rattle.theory_deal.proofs.shape_is_short.Goals as goal

pub returns : goal.returns
returns c = proof.shape_is_short
