use Rattle.std.proofs.Common.{◌≡◌, drop}
use Rattle.spec_terms.specs.Value.{length_in}
use Rattle.spec_calculus.specs.Branches.{secret_lengths}
use Rattle.bm_calculus.proofs.lengths.revealed_length.Given as goal

abbrev pub invariant-loop-revealed : goal.invariant-loop-revealed
invariant-loop-revealed l =
    length_in (secret_lengths l.committed l.contract l.pre (drop l.revealed-index l.reveals)) l.name
    ≡ length_in (secret_lengths l.committed l.contract l.pre l.reveals) l.name
