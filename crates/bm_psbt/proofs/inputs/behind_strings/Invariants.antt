use Rattle.std.proofs.Common.{◌≡◌, ◌-◌}
use Rattle.spec_bitcoin.specs.Reading.{many, string_at}
use Rattle.bm_psbt.specs.Ordered.{rest_of}
use Rattle.bm_psbt.proofs.inputs.behind_strings.Given as goal

-- what is behind those that are left is behind all
abbrev pub invariant-loop : goal.invariant-loop
invariant-loop l = rest_of (many string_at (l.count - l.counter) l.rest) ≡ rest_of (many string_at l.count l.bytes)
