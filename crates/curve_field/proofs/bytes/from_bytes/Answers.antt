use Rattle.std.proofs.Common.{◌≤◌, ◌^◌, arith}
use Rattle.std.proofs.Math.Nat.{pow-le-pow_right}
use Rattle.curve_field.proofs.bytes.from_bytes.Goals as goal

pub with_byte-number-requires : goal.with_byte-number-requires
with_byte-number-requires c =
    let few : c.loop-byte.byte-index ≤ 31 = omega (arith, c.loop-byte-test.true, c.requires) in
    let power : 256 ^ c.loop-byte.byte-index ≤ 256 ^ 31 = pow-le-pow_right {n = 256} (omega arith) few in
    omega (arith, c.loop-byte.invariant.below, power)
