use Rattle.theory_page.proofs.Runs.{rows_are_whole}
use Rattle.theory_page.proofs.by_sound_runs.Goals as goal

pub returns : goal.returns
returns c = rows_are_whole c.requires
