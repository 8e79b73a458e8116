use Rattle.theory_world.proofs.Ledger.Worth.{values_keep}
use Rattle.theory_world.proofs.value_theorem.Goals as goal

pub returns : goal.returns
returns c = values_keep
