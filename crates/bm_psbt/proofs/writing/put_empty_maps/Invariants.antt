use Rattle.std.proofs.Common.{◌≡◌, ◌++◌, replicate}
use Rattle.bm_psbt.proofs.writing.put_empty_maps.Given as goal

-- so many are written
abbrev pub invariant-loop : goal.invariant-loop
invariant-loop l = l.out.items ≡ l.initial.out.items ++ replicate l.counter 0
