use Rattle.theory_deal.proofs.SecretLines as proof
use Rattle.theory_deal.proofs.secret_files_are_read.Goals as goal

pub returns : goal.returns
returns c = proof.secret_files_are_read
