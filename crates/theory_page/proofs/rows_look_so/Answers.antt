use Rattle.theory_page.proofs.Looked as shown
use Rattle.theory_page.proofs.rows_look_so.Goals as goal

pub returns : goal.returns
returns c = shown.rows_look_so
