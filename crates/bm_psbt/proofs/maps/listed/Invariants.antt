use Rattle.std.proofs.Common.{◌≡◌, ◌++◌}
use Rattle.bm_psbt.proofs.maps.listed.Given as goal

-- what is listed and what is left are the whole
abbrev pub invariant-loop-key : goal.invariant-loop-key
invariant-loop-key l = l.list.items ++ l.key-iterator ≡ l.fn.records.entries
