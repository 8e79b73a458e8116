use Rattle.theory_deal.proofs.Signing as proof
use Rattle.theory_deal.proofs.asks_exactly.Goals as goal

pub returns : goal.returns
returns c = proof.asks_exactly
