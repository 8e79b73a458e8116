use Rattle.theory_deal.proofs.SignatureLines as proof
use Rattle.theory_deal.proofs.signature_files_are_read.Goals as goal

pub returns : goal.returns
returns c = proof.signature_files_are_read
