use Rattle.theory_script.proofs.Scripts.Choosing.{chooses_by_items}
use Rattle.theory_script.proofs.chooses_by_items.Goals as goal

pub returns : goal.returns
returns c = chooses_by_items
