use Rattle.theory_deal.proofs.ReadDeals as proof
use Rattle.theory_deal.proofs.scripts_are_payable.Goals as goal

pub returns : goal.returns
returns c = proof.scripts_are_payable
