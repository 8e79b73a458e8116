use Rattle.theory_deal.proofs.Widths.Weighed as proof
use Rattle.theory_deal.proofs.are_light.Goals as goal

pub returns : goal.returns
returns c = proof.are_light
