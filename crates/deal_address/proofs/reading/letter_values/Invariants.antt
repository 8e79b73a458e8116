use Rattle.std.proofs.Common.{◌≡◌, map, take}
use Rattle.std.specs.Str.{str_to_ascii_lowercase}
use Rattle.spec_address.specs.Address.{value_of}
use Rattle.deal_address.proofs.reading.letter_values.Given as goal

abbrev pub invariant-loop-letter : goal.invariant-loop-letter
invariant-loop-letter l = l.values.items ≡ map value_of (str_to_ascii_lowercase (take l.letter-index l.letters))
