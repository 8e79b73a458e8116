use Rattle.theory_offers.proofs.Complete.{complete}
use Rattle.theory_offers.proofs.offers_are_complete.Goals as goal

pub returns : goal.returns
returns c = complete
