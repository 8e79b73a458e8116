use Rattle.theory_offers.proofs.Throughout.{kept_throughout_offers}
use Rattle.theory_offers.proofs.offers_throughout_theorem.Goals as goal

pub returns : goal.returns
returns c = kept_throughout_offers
