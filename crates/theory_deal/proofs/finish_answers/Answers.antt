use Rattle.theory_deal.proofs.FinishAnswers as proof
use Rattle.theory_deal.proofs.finish_answers.Goals as goal

pub returns : goal.returns
returns c = proof.finish_answers
