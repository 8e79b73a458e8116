use Rattle.theory_nodes.proofs.Few.{few_nodes}
use Rattle.theory_nodes.proofs.few_nodes.Goals as goal

pub returns : goal.returns
returns c = few_nodes
