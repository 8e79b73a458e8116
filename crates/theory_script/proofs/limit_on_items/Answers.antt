use Rattle.theory_script.proofs.Unlimited.{limit_unmet}
use Rattle.theory_script.proofs.limit_on_items.Goals as goal

pub returns : goal.returns
returns c = limit_unmet
