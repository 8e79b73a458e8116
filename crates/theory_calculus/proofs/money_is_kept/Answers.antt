use Rattle.theory_calculus.proofs.Kept.{money_is_kept}
use Rattle.theory_calculus.proofs.money_is_kept.Goals as goal

pub returns : goal.returns
returns c = money_is_kept
