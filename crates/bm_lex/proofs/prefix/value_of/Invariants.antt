use Rattle.std.proofs.Common.{◌≡◌, ◌<◌, ◌^◌, drop}
use Rattle.spec_data.specs.Digits.{value_from, below}
use Rattle.bm_lex.proofs.prefix.value_of.Given as goal

abbrev pub invariant-loop-digit : goal.invariant-loop-digit
invariant-loop-digit l = record {
  told : below (2 ^ 64) (value_from l.value (drop l.digit-index l.digits)) ≡ below (2 ^ 64) (value_from 0 l.digits);
  small : l.value < 2 ^ 64;
}
