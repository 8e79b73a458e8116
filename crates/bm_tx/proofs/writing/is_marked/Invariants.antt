use Rattle.std.proofs.Common.{◌≡◌, drop}
use Rattle.spec_bitcoin.specs.Spelling as spec
use Rattle.bm_tx.proofs.writing.is_marked.Given as goal

-- what is left decides
abbrev pub invariant-loop-input : goal.invariant-loop-input
invariant-loop-input l = spec.is_marked (drop l.input-index l.inputs) ≡ spec.is_marked l.inputs
