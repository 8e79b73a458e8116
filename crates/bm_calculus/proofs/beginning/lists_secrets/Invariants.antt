use Rattle.std.proofs.Common.{◌≡◌, drop}
use Rattle.spec_calculus.specs.Beginning.{lists_secrets}
use Rattle.bm_calculus.proofs.beginning.lists_secrets.Given as goal

abbrev pub invariant-loop-entry : goal.invariant-loop-entry
invariant-loop-entry l = lists_secrets l.party (drop l.entry-index l.pre) l.rest ≡ lists_secrets l.party l.pre l.lengths
