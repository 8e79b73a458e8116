use Rattle.theory_script.proofs.Scripts.Opened.{cost_is}
use Rattle.theory_script.proofs.size_theorem.Goals as goal

pub returns : goal.returns
returns c = λ hash s position choice is_hash compiled. cost_is hash s position choice is_hash compiled
