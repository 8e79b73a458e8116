use Rattle.theory_script.proofs.Scripts.Opened.{no_limit_met}
use Rattle.theory_script.proofs.no_limit_is_met.Goals as goal

pub returns : goal.returns
returns c = λ hash s position choice. no_limit_met hash s position choice
