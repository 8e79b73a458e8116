use Rattle.theory_script.proofs.Keyed.Opened.{no_limit_met}
use Rattle.theory_script.proofs.any_keys.no_limit_is_met.Goals as goal

pub returns : goal.returns
returns c = λ hash keys s position choice. no_limit_met hash keys s position choice
