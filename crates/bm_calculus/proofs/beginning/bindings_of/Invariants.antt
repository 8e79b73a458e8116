use Rattle.std.proofs.Common.{◌≡◌, drop}
use Rattle.spec_calculus.specs.Beginning.{bindings_of}
use Rattle.bm_calculus.proofs.beginning.bindings_of.Given as goal

abbrev pub invariant-loop-entry : goal.invariant-loop-entry
invariant-loop-entry l = bindings_of (drop l.entry-index l.advertised) l.contract ≡ bindings_of l.advertised l.contract
