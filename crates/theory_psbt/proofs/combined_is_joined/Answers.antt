use Rattle.theory_psbt.proofs.Combining.{combined_is_joined}
use Rattle.theory_psbt.proofs.combined_is_joined.Goals as goal

pub returns : goal.returns
returns c = combined_is_joined
