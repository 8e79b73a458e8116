use Rattle.std.proofs.Common.{◌≡◌, ◌++◌, map, take}
use Rattle.spec_address.specs.Address.{letter_of}
use Rattle.deal_address.proofs.letters.put_letters.Given as goal

abbrev pub invariant-loop-value : goal.invariant-loop-value
invariant-loop-value l = l.out.items ≡ l.initial.out.items ++ map letter_of (take l.value-index l.values)
