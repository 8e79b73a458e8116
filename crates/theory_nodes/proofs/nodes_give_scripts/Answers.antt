use Rattle.theory_nodes.proofs.Walking.{scripts_listed}
use Rattle.theory_nodes.proofs.nodes_give_scripts.Goals as goal

pub returns : goal.returns
returns c = scripts_listed
