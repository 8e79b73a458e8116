use Rattle.std.proofs.Common.{◌≡◌, ◌++◌, drop}
use Rattle.bm_psbt.specs.Merged.{before_key}
use Rattle.bm_psbt.proofs.signatures.copy_before.Given as goal

-- those that are copied and those that are left are the whole
abbrev pub invariant-loop-other : goal.invariant-loop-other
invariant-loop-other l = l.out ++ before_key l.key (drop l.other-index l.signatures) ≡ l.initial.out ++ before_key l.key l.signatures
