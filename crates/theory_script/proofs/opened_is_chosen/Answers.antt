use Rattle.theory_script.proofs.Scripts.Chosen.{opened_is_chosen}
use Rattle.theory_script.proofs.opened_is_chosen.Goals as goal

pub returns : goal.returns
returns c = opened_is_chosen
