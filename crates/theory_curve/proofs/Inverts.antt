-- Modulo the prime of the field the power m - 2 is the inverse.
use Rattle.std.proofs.Common.{lit≤}
use Rattle.spec_curve.specs.Field.{field_prime}
use Rattle.theory_curve.specs.Jacobian.{Inverts}
use Rattle.theory_curve.proofs.Power.{inverts_at}
use Rattle.theory_curve.proofs.Chain.{first}

pub field_inverts : Inverts field_prime
field_inverts = record {
  law = λ a h b. (inverts_at 115792089237316195423570985008687907853269984665640564039457584007908834671661 a first (lit≤ tt) h b).is;
}
