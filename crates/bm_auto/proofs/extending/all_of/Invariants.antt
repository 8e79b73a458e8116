use Rattle.std.proofs.Common.{◌≡◌, take}
use Rattle.bm_auto.proofs.Steps.{lent}
use Rattle.bm_auto.proofs.extending.all_of.Given as goal

abbrev pub invariant-loop-rule : goal.invariant-loop-rule
invariant-loop-rule l = lent l.list.items ≡ take l.rule-index l.rules
