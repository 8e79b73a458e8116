use Rattle.std.proofs.Common.{◌≡◌, drop}
use Rattle.spec_calculus.specs.Beginning.{are_init_authorised, persistent_names}
use Rattle.bm_calculus.proofs.beginning.are_init_authorised.Given as goal

abbrev pub invariant-loop-entry : goal.invariant-loop-entry
invariant-loop-entry l =
    are_init_authorised l.authorised l.contract (persistent_names (drop l.entry-index l.pre))
    ≡ are_init_authorised l.authorised l.contract (persistent_names l.pre)
