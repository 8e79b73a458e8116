use Rattle.std.proofs.Common.{◌≡◌, ◌<◌, ◌^◌, drop, true}
use Rattle.std.specs.List.{list_all}
use Rattle.spec_data.specs.Digits.{is_digit, value_from, decimal_value, below}
use Rattle.bm_text.proofs.decimals.value_of.Given as goal

-- what the digits that are left go on to is what all of them are
abbrev pub invariant-loop-byte : goal.invariant-loop-byte
invariant-loop-byte l = record {
  told : below (2 ^ 64) (value_from l.value (drop l.byte-index l.digits)) ≡ below (2 ^ 64) (decimal_value l.digits);
  rest : list_all is_digit (drop l.byte-index l.digits) ≡ true;
  small : l.value < 2 ^ 64;
}
