use Rattle.std.proofs.Common.{◌≡◌, ◌-◌, ◌++◌}
use Rattle.spec_bitcoin.specs.Numbers.{signed_bytes}
use Rattle.bm_ops.proofs.numbers.bytes_of.Given as goal

abbrev pub invariant-loop : goal.invariant-loop
invariant-loop l = l.bytes.items ++ signed_bytes (9 - l.counter) l.rest l.is_minus ≡ signed_bytes 9 l.size l.is_minus
