use Rattle.std.proofs.Common.{◌≡◌, drop}
use Rattle.std.specs.Cmp.Lexicographic.{pointwise}
use Rattle.spec_run.specs.Ledger.{same_input}
use Rattle.bm_match.proofs.same.same_inputs.Given as goal

-- the rest of both is the same exactly where all is
abbrev pub invariant-loop-input : goal.invariant-loop-input
invariant-loop-input l = pointwise same_input (drop l.input-index l.first) l.rest ≡ pointwise same_input l.first l.second
