use Rattle.theory_chain.proofs.RequirementLines as proof
use Rattle.theory_chain.proofs.unverified_exactly.Goals as goal

pub returns : goal.returns
returns c = proof.unverified_exactly
