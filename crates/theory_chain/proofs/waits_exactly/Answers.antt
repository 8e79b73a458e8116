use Rattle.theory_chain.proofs.RequirementOrder as proof
use Rattle.theory_chain.proofs.waits_exactly.Goals as goal

pub returns : goal.returns
returns c = proof.waits_exactly
