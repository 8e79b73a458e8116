use Rattle.theory_nodes.proofs.Keyed.Walking.{transactions_walked}
use Rattle.theory_nodes.proofs.any_keys.nodes_give_transactions.Goals as goal

pub returns : goal.returns
returns c = transactions_walked
