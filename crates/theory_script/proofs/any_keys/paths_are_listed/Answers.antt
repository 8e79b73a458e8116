use Rattle.theory_script.proofs.Keyed.Transactions.{paths_are_listed}
use Rattle.theory_script.proofs.any_keys.paths_are_listed.Goals as goal

pub returns : goal.returns
returns c = paths_are_listed
