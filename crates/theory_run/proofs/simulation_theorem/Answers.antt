use Rattle.theory_run.proofs.Simulated.{simulation}
use Rattle.theory_run.proofs.simulation_theorem.Goals as goal

pub returns : goal.returns
returns c = simulation
