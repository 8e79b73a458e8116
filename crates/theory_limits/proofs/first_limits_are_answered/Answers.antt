use Rattle.theory_limits.proofs.Verdicts.{limits_are}
use Rattle.theory_limits.proofs.first_limits_are_answered.Goals as goal

pub returns : goal.returns
returns c = limits_are
