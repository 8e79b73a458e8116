use Rattle.theory_script.proofs.Scripts.Witnesses.{witness_opens}
use Rattle.theory_script.proofs.witness_opens.Goals as goal

pub returns : goal.returns
returns c = witness_opens
