use Rattle.theory_auto.proofs.RulePaths.{rules_take}
use Rattle.theory_auto.proofs.rules_take_their_branches.Goals as goal

pub returns : goal.returns
returns c = rules_take
