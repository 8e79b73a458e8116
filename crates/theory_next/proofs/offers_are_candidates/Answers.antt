use Rattle.theory_next.proofs.Complete.{offers_are_candidates}
use Rattle.theory_next.proofs.offers_are_candidates.Goals as goal

pub returns : goal.returns
returns c = offers_are_candidates
