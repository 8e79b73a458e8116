use Rattle.theory_script.proofs.Keyed.Chosen.{opened_is_chosen}
use Rattle.theory_script.proofs.any_keys.opened_is_chosen.Goals as goal

pub returns : goal.returns
returns c = opened_is_chosen
