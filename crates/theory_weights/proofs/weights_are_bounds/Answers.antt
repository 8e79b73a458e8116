use Rattle.theory_weights.proofs.Bounded.{weights_are_bounds}
use Rattle.theory_weights.proofs.weights_are_bounds.Goals as goal

pub returns : goal.returns
returns c = weights_are_bounds
