use Rattle.theory_wallets.proofs.Poor as proof
use Rattle.theory_wallets.proofs.warns_of_values.Goals as goal

pub returns : goal.returns
returns c = proof.warns_of_values
