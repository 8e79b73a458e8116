use Rattle.theory_run.proofs.Soundness.{sound_runs}
use Rattle.theory_run.proofs.runs_are_sound.Goals as goal

pub returns : goal.returns
returns c = sound_runs
