use Rattle.theory_weights.proofs.ByPosition.{weights_by_sizes}
use Rattle.theory_weights.proofs.weights_by_sizes.Goals as goal

pub returns : goal.returns
returns c = weights_by_sizes
