use Rattle.theory_psbt.proofs.Signers as proof
use Rattle.theory_psbt.proofs.any_keys.signers_for_each.Goals as goal

pub returns : goal.returns
returns c = proof.signers_for_each
