use Rattle.theory_auto.proofs.OwnRules.{keep_to_rules}
use Rattle.theory_auto.proofs.strategies_keep_to_rules.Goals as goal

pub returns : goal.returns
returns c = keep_to_rules
