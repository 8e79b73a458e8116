use Rattle.theory_deal_text.proofs.Answers.{deal_texts}
use Rattle.theory_deal_text.proofs.deal_texts_are_read.Goals as goal

pub returns : goal.returns
returns c = deal_texts
