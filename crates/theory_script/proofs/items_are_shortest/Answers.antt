use Rattle.theory_script.proofs.Items.{shortest_item}
use Rattle.theory_script.proofs.items_are_shortest.Goals as goal

pub returns : goal.returns
returns c = shortest_item
