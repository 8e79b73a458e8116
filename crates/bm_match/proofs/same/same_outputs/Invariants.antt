use Rattle.std.proofs.Common.{◌≡◌, drop}
use Rattle.std.specs.Cmp.Lexicographic.{pointwise}
use Rattle.spec_run.specs.Ledger.{same_output}
use Rattle.bm_match.proofs.same.same_outputs.Given as goal

-- the rest of both is the same exactly where all is
abbrev pub invariant-loop-output : goal.invariant-loop-output
invariant-loop-output l = pointwise same_output (drop l.output-index l.first) l.rest ≡ pointwise same_output l.first l.second
