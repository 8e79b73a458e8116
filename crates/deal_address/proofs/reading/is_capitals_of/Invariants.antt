use Rattle.std.proofs.Common.{◌≡◌, drop}
use Rattle.std.specs.Str.{bytes_eq, str_to_ascii_uppercase}
use Rattle.deal_address.proofs.reading.is_capitals_of.Given as goal

abbrev pub invariant-loop-i : goal.invariant-loop-i
invariant-loop-i l = bytes_eq (drop l.i l.word) (str_to_ascii_uppercase (drop l.i l.text)) ≡ bytes_eq l.word (str_to_ascii_uppercase l.text)
