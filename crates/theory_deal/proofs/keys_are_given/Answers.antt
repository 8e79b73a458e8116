use Rattle.theory_deal.proofs.KeysGiven as proof
use Rattle.theory_deal.proofs.keys_are_given.Goals as goal

pub returns : goal.returns
returns c = proof.keys_are_given
