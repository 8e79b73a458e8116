use Rattle.theory_psbt.proofs.KeysDiffer as proof
use Rattle.theory_psbt.proofs.participants_differ.Goals as goal

pub returns : goal.returns
returns c = proof.participants_differ
