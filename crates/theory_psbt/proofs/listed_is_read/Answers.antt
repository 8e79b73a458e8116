use Rattle.spec_tool.specs.PsbtText.{listed_psbt}
use Rattle.theory_psbt.proofs.ListedFits.{listed_fits}
use Rattle.theory_psbt.proofs.Writing.{written_is_read}
use Rattle.theory_psbt.proofs.listed_is_read.Goals as goal

pub returns : goal.returns
returns c = λ hash fine book l h small. written_is_read (listed_psbt hash book l) (listed_fits hash fine book l h) small
