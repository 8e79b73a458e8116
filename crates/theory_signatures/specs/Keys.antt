-- Bytes that are keys, and bytes that are none.
use Rattle.std.specs.Prelude.{◌≡◌, codes, true, false, Some}
use Rattle.spec_curve.specs.Point.{at, base}
use Rattle.spec_curve.specs.Key.{point, is_key}
use Rattle.theory_signatures.specs.Bytes.{bytes_of}

pub record KeysAndPoints : Type 0 where
  pub point_of_1 : is_key (bytes_of (codes "020000000000000000000000000000000000000000000000000000000000000001")) ≡ true
  pub point_of_2 : is_key (bytes_of (codes "020000000000000000000000000000000000000000000000000000000000000002")) ≡ true
  pub point_of_3 : is_key (bytes_of (codes "020000000000000000000000000000000000000000000000000000000000000003")) ≡ true
  pub point_of_4 : is_key (bytes_of (codes "020000000000000000000000000000000000000000000000000000000000000004")) ≡ true
  pub no_point_of_5 : is_key (bytes_of (codes "020000000000000000000000000000000000000000000000000000000000000005")) ≡ false
  pub point_of_6 : is_key (bytes_of (codes "020000000000000000000000000000000000000000000000000000000000000006")) ≡ true
  pub no_point_of_7 : is_key (bytes_of (codes "020000000000000000000000000000000000000000000000000000000000000007")) ≡ false
  pub point_of_8 : is_key (bytes_of (codes "020000000000000000000000000000000000000000000000000000000000000008")) ≡ true
  pub no_point_of_9 : is_key (bytes_of (codes "020000000000000000000000000000000000000000000000000000000000000009")) ≡ false
  pub no_point_of_10 : is_key (bytes_of (codes "02000000000000000000000000000000000000000000000000000000000000000a")) ≡ false
  pub no_point_of_11 : is_key (bytes_of (codes "02000000000000000000000000000000000000000000000000000000000000000b")) ≡ false
  -- the prime and 1 more: the 1 has a point, but the number is not taken modulo the prime
  pub above_the_prime : is_key (bytes_of (codes "02fffffffffffffffffffffffffffffffffffffffffffffffffffffffefffffc30")) ≡ false
  pub other_sign : is_key (bytes_of (codes "0479be667ef9dcbbac55a06295ce870b07029bfcdb2dce28d959f2815b16f81798")) ≡ false
  pub short : is_key (bytes_of (codes "0279be667ef9dcbbac55a06295ce870b07029bfcdb2dce28d959f2815b16f817")) ≡ false
  pub even : point (bytes_of (codes "0279be667ef9dcbbac55a06295ce870b07029bfcdb2dce28d959f2815b16f81798")) ≡ Some base
  pub odd : point (bytes_of (codes "0379be667ef9dcbbac55a06295ce870b07029bfcdb2dce28d959f2815b16f81798")) ≡ Some (at 0x79be667ef9dcbbac55a06295ce870b07029bfcdb2dce28d959f2815b16f81798 0xb7c52588d95c3b9aa25b0403f1eef75702e84bb7597aabe663b82f6f04ef2777)
