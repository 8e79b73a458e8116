use Rattle.theory_chain.proofs.RequirementOrder as proof
use Rattle.theory_chain.proofs.requirements_in_order.Goals as goal

pub returns : goal.returns
returns c = proof.requirements_in_order c.asks_exactly.ensures c.signatures_in_order.ensures
