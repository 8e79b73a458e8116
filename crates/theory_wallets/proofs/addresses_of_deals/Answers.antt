use Rattle.theory_wallets.proofs.Shown as proof
use Rattle.theory_wallets.proofs.addresses_of_deals.Goals as goal

pub returns : goal.returns
returns c = proof.addresses_of_deals c.each_has_address.ensures c.addresses_are_read_back.ensures c.read_exactly.ensures c.read_is_shown.ensures
