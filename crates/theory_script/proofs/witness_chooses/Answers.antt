use Rattle.theory_script.proofs.Scripts.Choosing.{witness_chooses}
use Rattle.theory_script.proofs.witness_chooses.Goals as goal

pub returns : goal.returns
returns c = witness_chooses
