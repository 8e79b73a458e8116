use Rattle.theory_wallets.proofs.Networks as proof
use Rattle.theory_wallets.proofs.networks_add_addresses.Goals as goal

pub returns : goal.returns
returns c = proof.networks_add_addresses
