use Rattle.theory_psbt.proofs.Combining.{sound}
use Rattle.bm_psbt.proofs.combining.inputs_of.Goals as goal

pub returns-clause-ascend : goal.returns-clause-ascend
returns-clause-ascend c = rw c.inputs.ensures.inputs (sound c.args.psbt.now c.inputs.ensures.is).ascend
