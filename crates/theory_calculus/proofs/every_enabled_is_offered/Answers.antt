use Rattle.theory_calculus.proofs.Offered.{every_enabled}
use Rattle.theory_calculus.proofs.every_enabled_is_offered.Goals as goal

pub returns : goal.returns
returns c = every_enabled
