use Rattle.std.proofs.Common.{◌≡◌, drop}
use Rattle.std.specs.Cmp.Lexicographic.{pointwise}
use Rattle.spec_run.specs.Ledger as spec
use Rattle.bm_psbt.proofs.same.same_inputs.Given as goal

-- what is left decides
abbrev pub invariant-loop-input : goal.invariant-loop-input
invariant-loop-input l = pointwise spec.same_input (drop l.input-index l.inputs) l.rest ≡ pointwise spec.same_input l.inputs l.others
