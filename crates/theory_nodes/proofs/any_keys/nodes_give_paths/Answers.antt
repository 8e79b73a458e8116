use Rattle.theory_nodes.proofs.Keyed.Walking.{paths_listed}
use Rattle.theory_nodes.proofs.any_keys.nodes_give_paths.Goals as goal

pub returns : goal.returns
returns c = paths_listed
