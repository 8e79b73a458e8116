use Rattle.std.proofs.Common.{◌≡◌, drop}
use Rattle.std.specs.Cmp.Lexicographic.{pointwise}
use Rattle.spec_run.specs.Ledger as spec
use Rattle.bm_psbt.proofs.same.same_outputs.Given as goal

-- what is left decides
abbrev pub invariant-loop-output : goal.invariant-loop-output
invariant-loop-output l = pointwise spec.same_output (drop l.output-index l.outputs) l.rest ≡ pointwise spec.same_output l.outputs l.others
