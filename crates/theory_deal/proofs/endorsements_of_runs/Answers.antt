use Rattle.theory_deal.proofs.EndorsementsOfRuns as proof
use Rattle.theory_deal.proofs.endorsements_of_runs.Goals as goal

pub returns : goal.returns
returns c = proof.endorsements_of_runs
