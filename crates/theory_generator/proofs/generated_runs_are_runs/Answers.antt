use Rattle.theory_generator.proofs.RunsPlay.{run_plays}
use Rattle.theory_generator.proofs.generated_runs_are_runs.Goals as goal

pub returns : goal.returns
returns c = run_plays
