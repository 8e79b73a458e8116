use Rattle.theory_auto.proofs.Continued.{strategies_go}
use Rattle.theory_auto.proofs.strategies_go_on.Goals as goal

pub returns : goal.returns
returns c = strategies_go
