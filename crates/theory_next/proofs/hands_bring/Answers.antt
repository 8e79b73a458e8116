use Rattle.theory_next.proofs.ByHand.{hands_bring}
use Rattle.theory_next.proofs.hands_bring.Goals as goal

pub returns : goal.returns
returns c = hands_bring
