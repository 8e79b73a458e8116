use Rattle.theory_follow.proofs.LiveMaps as proof
use Rattle.theory_follow.proofs.ledgers_follow.Goals as goal

pub returns : goal.returns
returns c = proof.ledgers_follow c.own_is_accepted.ensures c.none_is_circular.ensures c.keys_are_used.ensures
