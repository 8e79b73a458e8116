use Rattle.theory_world.proofs.Refused.{refusals_keep}
use Rattle.theory_world.proofs.refusal_theorem.Goals as goal

pub returns : goal.returns
returns c = refusals_keep
