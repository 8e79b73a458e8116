-- The branch that a stack opens is the one that it chooses, by the key plan.
use Rattle.spec_compiler.specs.Keyed.Keys.{by_plan}
use Rattle.spec_compiler.specs.Statements.{OpenedIsChosen}
use Rattle.theory_script.proofs.Keyed.Chosen as keyed
pub use Rattle.theory_script.proofs.Keyed.Chosen.{chosen_from}

pub opened_is_chosen : OpenedIsChosen
opened_is_chosen hash = keyed.opened_is_chosen hash by_plan
