use Rattle.theory_deal.proofs.WalletWitnesses as proof
use Rattle.theory_deal.proofs.witnesses_verify.Goals as goal

pub returns : goal.returns
returns c = proof.witnesses_verify
