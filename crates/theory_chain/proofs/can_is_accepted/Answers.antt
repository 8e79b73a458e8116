use Rattle.theory_chain.proofs.Ledgers as proof
use Rattle.theory_chain.proofs.can_is_accepted.Goals as goal

pub returns : goal.returns
returns c = proof.can_is_accepted c.can_exactly.ensures c.can_opens.ensures
