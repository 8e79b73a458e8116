use Rattle.theory_limits.proofs.ListedAdverts.{trees_are}
use Rattle.theory_limits.proofs.marks_are_those_of_the_tree.Goals as goal

pub returns : goal.returns
returns c = trees_are
