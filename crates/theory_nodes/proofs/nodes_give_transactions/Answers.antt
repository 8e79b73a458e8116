use Rattle.theory_nodes.proofs.Walking.{transactions_walked}
use Rattle.theory_nodes.proofs.nodes_give_transactions.Goals as goal

pub returns : goal.returns
returns c = transactions_walked
