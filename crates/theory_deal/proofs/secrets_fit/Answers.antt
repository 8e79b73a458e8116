use Rattle.theory_deal.proofs.ReadSecrets as proof
use Rattle.theory_deal.proofs.secrets_fit.Goals as goal

pub returns : goal.returns
returns c = proof.secrets_fit
