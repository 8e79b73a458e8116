use Rattle.theory_script.proofs.Keyed.Opened.{cost_is}
use Rattle.theory_script.proofs.any_keys.size_theorem.Goals as goal

pub returns : goal.returns
returns c = cost_is
