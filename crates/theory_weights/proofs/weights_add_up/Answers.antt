use Rattle.theory_weights.proofs.Adding.{weights_add_up}
use Rattle.theory_weights.proofs.weights_add_up.Goals as goal

pub returns : goal.returns
returns c = weights_add_up
