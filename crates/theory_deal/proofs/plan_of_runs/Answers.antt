use Rattle.theory_deal.proofs.PlanOfRuns as proof
use Rattle.theory_deal.proofs.plan_of_runs.Goals as goal

pub returns : goal.returns
returns c = proof.plan_of_runs
