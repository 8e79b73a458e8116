use Rattle.theory_commands.proofs.Refused.{files_judged}
use Rattle.theory_commands.proofs.files_are_judged.Goals as goal

pub returns : goal.returns
returns c = files_judged
