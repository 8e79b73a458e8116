use Rattle.std.proofs.Common.{◌≡◌, drop}
use Rattle.spec_terms.specs.Precondition.{deposits}
use Rattle.spec_calculus.specs.Beginning.{binds_each}
use Rattle.bm_calculus.proofs.beginning.binds_each.Given as goal

abbrev pub invariant-loop-entry : goal.invariant-loop-entry
invariant-loop-entry l =
    binds_each l.deposits (deposits (drop l.entry-index l.pre)) l.rest ≡ binds_each l.deposits (deposits l.pre) l.bindings
