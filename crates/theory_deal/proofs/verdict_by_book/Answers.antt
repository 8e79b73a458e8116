use Rattle.theory_deal.proofs.Ledger.ByBook as proof
use Rattle.theory_deal.proofs.verdict_by_book.Goals as goal

pub returns : goal.returns
returns c = proof.verdict_by_book
