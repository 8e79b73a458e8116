use Rattle.theory_curve.proofs.Chain.{field_prime_is}
use Rattle.theory_curve.proofs.field_prime_is_prime.Goals as goal

pub returns : goal.returns
returns c = field_prime_is
