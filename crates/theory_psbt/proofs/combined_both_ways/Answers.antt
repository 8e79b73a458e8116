use Rattle.theory_psbt.proofs.Combining.{combined_both_ways}
use Rattle.theory_psbt.proofs.combined_both_ways.Goals as goal

pub returns : goal.returns
returns c = combined_both_ways
