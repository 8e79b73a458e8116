use Rattle.theory_chain.proofs.ChainRuns as proof
use Rattle.theory_chain.proofs.chains_are_runs.Goals as goal

pub returns : goal.returns
returns c = proof.chains_are_runs
