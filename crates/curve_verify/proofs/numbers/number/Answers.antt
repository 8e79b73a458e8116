use Rattle.std.proofs.Common.{◌≡◌, ◌<◌, length, get_or, arith, rules}
use Rattle.curve_verify.proofs.Sizes.{number_of_33}
use Rattle.curve_verify.proofs.numbers.number.Goals as goal

pub returns-then-bytes-ne0 : goal.returns-then-bytes-ne0
returns-then-bytes-ne0 c =
    let many : length c.args.bytes.now ≡ 33 = omega (arith, c.requires, c.if-bytes-le-WORDS_BYTES.false) in
    let some : 0 < get_or c.args.bytes.now 0 0 = first_of (search rules, omega (arith, c.if-bytes-ne0.true)) in
    number_of_33 c.args.bytes.now many some
