use Rattle.theory_offers.proofs.Authorised.{authorisations_signed}
use Rattle.theory_offers.proofs.authorisations_have_signatures.Goals as goal

pub returns : goal.returns
returns c = authorisations_signed
