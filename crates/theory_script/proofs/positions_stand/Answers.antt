use Rattle.theory_script.proofs.Listing.Stands.{position_stands}
use Rattle.theory_script.proofs.positions_stand.Goals as goal

pub returns : goal.returns
returns c = position_stands
