use Rattle.std.proofs.Common.{codes}
use Rattle.bm_plan.proofs.weights.init_value.Goals as goal

pub returns : goal.returns
returns c = c.transaction_value.ensures (codes "init") c.in_ok-name.ensures
