use Rattle.std.proofs.Common.{◌≡◌, ◌++◌, drop}
use Rattle.spec_terms.specs.Precondition.{persistent}
use Rattle.bm_psbt_plan.specs.Parts.{persistent_inputs}
use Rattle.bm_psbt_plan.proofs.inputs.persistent_inputs.Given as goal

abbrev pub invariant-loop-entry : goal.invariant-loop-entry
invariant-loop-entry g l =
    l.inputs.items ++ persistent_inputs (g.H.Hash32.digest_of l.hasher) l.book (persistent (drop l.entry-index l.pre)) l.rest
    ≡ persistent_inputs (g.H.Hash32.digest_of l.hasher) l.book (persistent l.pre) l.digests
