use Rattle.theory_follow.proofs.Taken as proof
use Rattle.theory_follow.proofs.taken_stands.Goals as goal

pub returns : goal.returns
returns c = proof.taken_stands c.none_is_circular.ensures c.keys_are_used.ensures
