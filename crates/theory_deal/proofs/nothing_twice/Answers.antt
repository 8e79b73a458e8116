use Rattle.theory_deal.proofs.NothingTwice as proof
use Rattle.theory_deal.proofs.nothing_twice.Goals as goal

pub returns : goal.returns
returns c = proof.nothing_twice
