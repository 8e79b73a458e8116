use Rattle.theory_bitcoin.proofs.Top.{no_spelling_begins}
use Rattle.theory_bitcoin.proofs.no_spelling_begins.Goals as goal

pub returns : goal.returns
returns c = no_spelling_begins
