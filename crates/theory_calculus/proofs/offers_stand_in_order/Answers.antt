use Rattle.theory_calculus.proofs.Offered.{in_order}
use Rattle.theory_calculus.proofs.offers_stand_in_order.Goals as goal

pub returns : goal.returns
returns c = in_order
