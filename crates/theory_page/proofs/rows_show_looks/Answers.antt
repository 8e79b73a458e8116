use Rattle.theory_page.proofs.Numbered as shown
use Rattle.theory_page.proofs.rows_show_looks.Goals as goal

pub returns : goal.returns
returns c = shown.rows_show_looks
