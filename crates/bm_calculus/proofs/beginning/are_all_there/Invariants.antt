use Rattle.std.proofs.Common.{◌≡◌, drop}
use Rattle.spec_calculus.specs.Beginning.{are_there, persistent_names}
use Rattle.bm_calculus.proofs.beginning.are_all_there.Given as goal

abbrev pub invariant-loop-entry : goal.invariant-loop-entry
invariant-loop-entry l =
    are_there l.deposits l.bindings (persistent_names (drop l.entry-index l.pre)) ≡ are_there l.deposits l.bindings (persistent_names l.pre)
