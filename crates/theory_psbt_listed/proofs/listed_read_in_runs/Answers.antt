use Rattle.theory_psbt_listed.proofs.InRuns as proof
use Rattle.theory_psbt_listed.proofs.listed_read_in_runs.Goals as goal

pub returns : goal.returns
returns c = proof.listed_read
