use Rattle.std.proofs.Common.{◌≡◌, true, false, length, sym, ap, ◌∙◌, arith}
use Rattle.spec_deal.specs.Shape.{is_number, is_low}
use Rattle.deal_signatures.proofs.LowNumbers.{long_is_high, no_low}
use Rattle.deal_signatures.proofs.numbers.is_low_number.Goals as goal

pub returns-then-bytes-eq-MOST_BYTES : goal.returns-then-bytes-eq-MOST_BYTES
returns-then-bytes-eq-MOST_BYTES c =
    let natural : is_number c.args.bytes.now ≡ true =
    first_of (cc (c.is_number.ensures, c.if-not-is_number.false), grind (arith, c.is_number.ensures, c.if-not-is_number.false)) in
    let long : length c.args.bytes.now ≡ 33 = first_of (omega (arith, c.if-bytes-eq-MOST_BYTES.true), grind (arith, c.if-bytes-eq-MOST_BYTES.true)) in
    no_low (is_number c.args.bytes.now) (is_low c.args.bytes.now) (long_is_high c.args.bytes.now natural long)
