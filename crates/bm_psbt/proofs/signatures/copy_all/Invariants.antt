use Rattle.std.proofs.Common.{◌≡◌, ◌++◌, drop}
use Rattle.bm_psbt.proofs.signatures.copy_all.Given as goal

-- those that are copied and those that are left are the whole
abbrev pub invariant-loop-key : goal.invariant-loop-key
invariant-loop-key l = l.out ++ drop l.key-index l.signatures ≡ l.initial.out ++ l.signatures
