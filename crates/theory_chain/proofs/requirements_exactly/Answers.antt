use Rattle.theory_chain.proofs.RequirementLines as proof
use Rattle.theory_chain.proofs.requirements_exactly.Goals as goal

pub returns : goal.returns
returns c = proof.requirements_exactly
