use Rattle.theory_next.proofs.Hands.{hands_count}
use Rattle.theory_next.proofs.hands_count.Goals as goal

pub returns : goal.returns
returns c = hands_count
