use Rattle.std.proofs.Common.{◌≡◌, ◌-◌}
use Rattle.bm_psbt.specs.Ordered.{inputs_at}
use Rattle.bm_psbt.proofs.Several.{with_inputs}
use Rattle.bm_psbt.proofs.reading.inputs_of.Given as goal

-- what was read and what is left to read are the whole
abbrev pub invariant-loop : goal.invariant-loop
invariant-loop l = with_inputs l.inputs (inputs_at (l.count - l.counter) l.rest) ≡ inputs_at l.count l.bytes
