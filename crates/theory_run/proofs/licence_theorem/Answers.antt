use Rattle.theory_run.proofs.Honest.Throughout.{licence}
use Rattle.theory_run.proofs.licence_theorem.Goals as goal

pub returns : goal.returns
returns c = licence
