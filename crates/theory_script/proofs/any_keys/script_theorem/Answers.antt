use Rattle.theory_script.proofs.Keyed.Opened.{opens_exactly}
use Rattle.theory_script.proofs.any_keys.script_theorem.Goals as goal

pub returns : goal.returns
returns c = λ hash keys valid s position choice stack are_keys compiled short.
    opens_exactly hash keys s position valid choice stack are_keys compiled short
