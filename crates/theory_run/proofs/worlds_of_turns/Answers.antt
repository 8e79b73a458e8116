use Rattle.theory_run.proofs.Worlds.WorldsOfRuns.{worlds_of_turns}
use Rattle.theory_run.proofs.worlds_of_turns.Goals as goal

pub returns : goal.returns
returns c = worlds_of_turns
