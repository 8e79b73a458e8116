use Rattle.std.proofs.Common.{◌≡◌, ◌-◌}
use Rattle.spec_bitcoin.specs.Reading.{many, string_at}
use Rattle.bm_tx.proofs.Loop.{with_prefix}
use Rattle.bm_tx.proofs.reading.items_of.Given as goal

-- what was read and what is left to read are the whole
abbrev pub invariant-loop : goal.invariant-loop
invariant-loop l = with_prefix l.items (many string_at (l.count - l.counter) l.rest) ≡ many string_at l.count l.bytes
