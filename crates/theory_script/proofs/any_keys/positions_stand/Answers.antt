use Rattle.theory_script.proofs.Keyed.Stands.{position_stands}
use Rattle.theory_script.proofs.any_keys.positions_stand.Goals as goal

pub returns : goal.returns
returns c = position_stands
