use Rattle.theory_deal.proofs.Circles as proof
use Rattle.theory_deal.proofs.none_is_circular.Goals as goal

pub returns : goal.returns
returns c = proof.none_is_circular
