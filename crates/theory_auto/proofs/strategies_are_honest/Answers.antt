use Rattle.theory_auto.proofs.Honest.{strategies_honest}
use Rattle.theory_auto.proofs.strategies_are_honest.Goals as goal

pub returns : goal.returns
returns c = strategies_honest
