use Rattle.theory_text.proofs.Lines.ValidRuns.{run_file_is}
use Rattle.theory_text.proofs.run_files_spell_runs.Goals as goal

pub returns : goal.returns
returns c = run_file_is
