use Rattle.theory_script.proofs.Items.{read_back}
use Rattle.theory_script.proofs.numbers_are_read_back.Goals as goal

pub returns : goal.returns
returns c = read_back
