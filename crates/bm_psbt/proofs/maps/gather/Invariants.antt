use Rattle.std.proofs.Common.{◌≡◌, ◌-◌, [], length}
use Rattle.bm_psbt.specs.Gathered.{pairs, gathered}
use Rattle.bm_psbt.proofs.maps.gather.Given as goal

-- what is gathered and what is left to gather are the whole
abbrev pub invariant-loop : goal.invariant-loop
invariant-loop l = gathered (length l.bytes - l.counter) (pairs l.records.entries) l.rest ≡ gathered (length l.bytes) [] l.bytes
