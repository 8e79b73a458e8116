use Rattle.theory_nodes.proofs.Keyed.Walking.{scripts_listed}
use Rattle.theory_nodes.proofs.any_keys.nodes_give_scripts.Goals as goal

pub returns : goal.returns
returns c = scripts_listed
