use Rattle.std.proofs.Common.{◌≡◌, length}
use Rattle.spec_calculus.specs.Beginning.{are_bound_apart}
use Rattle.bm_calculus.proofs.beginning.are_bound_apart.Given as goal

abbrev pub invariant-loop-rest : goal.invariant-loop-rest
invariant-loop-rest l = are_bound_apart l.rest ≡ are_bound_apart l.bindings

abbrev pub decreases-loop-rest : goal.decreases-loop-rest
decreases-loop-rest l = length l.rest
