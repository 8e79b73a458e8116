use Rattle.theory_run.proofs.Honest.Throughout.{honest_deposits}
use Rattle.theory_run.proofs.honest_deposits_theorem.Goals as goal

pub returns : goal.returns
returns c = honest_deposits
