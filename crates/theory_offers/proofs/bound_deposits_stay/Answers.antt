use Rattle.theory_offers.proofs.BoundDeposits.{deposits_stay}
use Rattle.theory_offers.proofs.bound_deposits_stay.Goals as goal

pub returns : goal.returns
returns c = deposits_stay
