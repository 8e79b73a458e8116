use Rattle.theory_deal.proofs.ReadDeals as proof
use Rattle.theory_deal.proofs.keys_are_points.Goals as goal

pub returns : goal.returns
returns c = proof.keys_are_points
