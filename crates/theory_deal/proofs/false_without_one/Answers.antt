use Rattle.theory_deal.proofs.Unsigned as proof
use Rattle.theory_deal.proofs.false_without_one.Goals as goal

pub returns : goal.returns
returns c = proof.false_without_one
