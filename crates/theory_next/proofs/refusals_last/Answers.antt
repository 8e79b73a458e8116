use Rattle.theory_next.proofs.Lasting.{refusals_last}
use Rattle.theory_next.proofs.refusals_last.Goals as goal

pub returns : goal.returns
returns c = refusals_last
