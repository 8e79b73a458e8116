use Rattle.theory_calculus.proofs.Kept.{money_stays_within}
use Rattle.theory_calculus.proofs.money_stays_within.Goals as goal

pub returns : goal.returns
returns c = money_stays_within
