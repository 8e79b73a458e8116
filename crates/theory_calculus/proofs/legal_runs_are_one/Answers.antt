use Rattle.theory_calculus.proofs.Runs.{runs_are_one}
use Rattle.theory_calculus.proofs.legal_runs_are_one.Goals as goal

pub returns : goal.returns
returns c = runs_are_one
