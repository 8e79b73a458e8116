use Rattle.theory_script.proofs.Keyed.Witnesses.{witness_opens}
use Rattle.theory_script.proofs.any_keys.witness_opens.Goals as goal

pub returns : goal.returns
returns c = witness_opens
