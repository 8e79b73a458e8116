use Rattle.theory_nodes.proofs.Walking.{paths_listed}
use Rattle.theory_nodes.proofs.nodes_give_paths.Goals as goal

pub returns : goal.returns
returns c = paths_listed
