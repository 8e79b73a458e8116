use Rattle.theory_auto.proofs.Printed as proof
use Rattle.theory_auto.proofs.printed_is_longer.Goals as goal

pub returns : goal.returns
returns c = proof.printed_is_longer c.valid_runs.ensures
