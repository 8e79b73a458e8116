use Rattle.bitml_deal.proofs.OpeningLemmas.{places_of}
use Rattle.bitml_deal.proofs.opening.deal_in.Goals as goal

pub returns-in-Some-clause-places : goal.returns-in-Some-clause-places
returns-in-Some-clause-places c =
    places_of c.deals_give_all.ensures c.args.contract.now c.as_slice.result.now c.read_deal.result c.read_deal.ensures
