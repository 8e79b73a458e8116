use Rattle.theory_tool.proofs.Completeness.{all_end}
use Rattle.theory_tool.proofs.well_formed_files_end.Goals as goal

pub returns : goal.returns
returns c = all_end
