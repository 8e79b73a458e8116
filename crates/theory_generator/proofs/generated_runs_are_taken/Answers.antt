use Rattle.theory_generator.proofs.RunTexts.{run_taken}
use Rattle.theory_generator.proofs.generated_runs_are_taken.Goals as goal

pub returns : goal.returns
returns c = run_taken
