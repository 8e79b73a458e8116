use Rattle.std.proofs.Common.{◌≡◌, map}
use Rattle.std.specs.List.{range_with_len}
use Rattle.spec_address.specs.Groups.{byte_at}
use Rattle.deal_address.proofs.groups.bytes_of.Given as goal

abbrev pub invariant-loop-i : goal.invariant-loop-i
invariant-loop-i l = l.bytes.items ≡ map (byte_at l.groups) (range_with_len 0 l.i)
