use Rattle.std.proofs.Common.{◌≡◌, drop}
use Rattle.spec_data.specs.Lists.{look_up}
use Rattle.bm_psbt.specs.Gathered.{pairs}
use Rattle.bm_psbt.proofs.inputs.find.Given as goal

-- the key isn't among the records so far
abbrev pub invariant-loop-other : goal.invariant-loop-other
invariant-loop-other l = look_up l.key (pairs (drop l.other-index l.records)) ≡ look_up l.key (pairs l.records)
