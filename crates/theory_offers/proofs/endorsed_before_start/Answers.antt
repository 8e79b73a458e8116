use Rattle.theory_offers.proofs.BegunInRun.{endorsed_before_start}
use Rattle.theory_offers.proofs.endorsed_before_start.Goals as goal

pub returns : goal.returns
returns c = endorsed_before_start
