use Rattle.theory_deal.proofs.Ledger.Accepted as proof
use Rattle.theory_deal.proofs.finished_accepted.Goals as goal

pub returns : goal.returns
returns c = proof.finished_accepted
