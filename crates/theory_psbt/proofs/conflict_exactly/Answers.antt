use Rattle.theory_psbt.proofs.Combining.{conflict_exactly}
use Rattle.theory_psbt.proofs.conflict_exactly.Goals as goal

pub returns : goal.returns
returns c = conflict_exactly
