use Rattle.theory_deal.proofs.Used as proof
use Rattle.theory_deal.proofs.keys_are_used.Goals as goal

pub returns : goal.returns
returns c = proof.keys_are_used
