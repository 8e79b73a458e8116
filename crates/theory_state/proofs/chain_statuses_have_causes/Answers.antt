use Rattle.theory_state.proofs.Causes as proof
use Rattle.theory_state.proofs.chain_statuses_have_causes.Goals as goal

pub returns : goal.returns
returns c = proof.chain_causes c.deal_statuses_have_causes.ensures
