use Rattle.theory_page.proofs.Whole as shown
use Rattle.theory_page.proofs.money_is_whole.Goals as goal

pub returns : goal.returns
returns c = shown.money_is_whole
