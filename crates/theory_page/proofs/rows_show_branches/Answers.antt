use Rattle.theory_page.proofs.Shown as shown
use Rattle.theory_page.proofs.rows_show_branches.Goals as goal

pub returns : goal.returns
returns c = shown.rows_show_branches
