use Rattle.std.proofs.Common.{arith}
use Rattle.deal_signatures.proofs.LowNumbers.{one_more}
use Rattle.deal_signatures.proofs.numbers.number_of.Goals as goal

pub overflow_mul-number : goal.overflow_mul-number
overflow_mul-number c =
    let more = one_more c.loop-byte.number c.loop-byte.byte-index _ c.loop-byte.invariant.below c.loop-byte-test.true c.requires in
    omega (arith, more)

pub overflow_add-number : goal.overflow_add-number
overflow_add-number c =
    let more = one_more c.loop-byte.number c.loop-byte.byte-index _ c.loop-byte.invariant.below c.loop-byte-test.true c.requires in
    first_of (omega (arith, more), grind (arith, more))
