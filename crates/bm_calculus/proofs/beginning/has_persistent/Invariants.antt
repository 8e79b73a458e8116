use Rattle.std.proofs.Common.{◌≡◌, drop}
use Rattle.spec_calculus.specs.Beginning.{has_persistent}
use Rattle.bm_calculus.proofs.beginning.has_persistent.Given as goal

abbrev pub invariant-loop-entry : goal.invariant-loop-entry
invariant-loop-entry l = has_persistent (drop l.entry-index l.pre) l.party l.deposit ≡ has_persistent l.pre l.party l.deposit
