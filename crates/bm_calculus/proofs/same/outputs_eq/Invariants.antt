use Rattle.std.proofs.Common.{◌≡◌, drop}
use Rattle.std.specs.Cmp.Lexicographic.{pointwise}
use Rattle.spec_calculus.specs.Same.{output_eq}
use Rattle.bm_calculus.proofs.same.outputs_eq.Given as goal

abbrev pub invariant-loop-output : goal.invariant-loop-output
invariant-loop-output l = pointwise output_eq (drop l.output-index l.first) l.rest ≡ pointwise output_eq l.first l.second
