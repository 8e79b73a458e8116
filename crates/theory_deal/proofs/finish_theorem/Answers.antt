use Rattle.theory_deal.proofs.Whole as proof
use Rattle.theory_deal.proofs.finish_theorem.Goals as goal

pub returns : goal.returns
returns c = proof.finish_theorem
