use Rattle.theory_offers.proofs.HaveEvents.{have_events}
use Rattle.theory_offers.proofs.offers_have_events.Goals as goal

pub returns : goal.returns
returns c = have_events
