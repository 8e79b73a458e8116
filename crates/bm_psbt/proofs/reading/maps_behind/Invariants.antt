use Rattle.std.proofs.Common.{◌≡◌, ◌-◌}
use Rattle.bm_psbt.specs.Ordered.{behind_maps}
use Rattle.bm_psbt.proofs.reading.maps_behind.Given as goal

-- what is behind those that are left is behind all
abbrev pub invariant-loop : goal.invariant-loop
invariant-loop l = behind_maps (l.count - l.counter) l.rest ≡ behind_maps l.count l.bytes
