use Rattle.theory_script.proofs.Scripts.Opened.{opens_exactly}
use Rattle.theory_script.proofs.script_theorem.Goals as goal

pub returns : goal.returns
returns c = λ hash valid s position choice stack is_hash compiled short. opens_exactly hash s position valid choice stack is_hash compiled short
