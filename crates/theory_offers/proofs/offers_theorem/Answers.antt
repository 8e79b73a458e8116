use Rattle.theory_offers.proofs.WholeRun.{kept_offers}
use Rattle.theory_offers.proofs.offers_theorem.Goals as goal

pub returns : goal.returns
returns c = kept_offers
