use Rattle.theory_script.proofs.Keyed.Missing.{missing_is_first}
use Rattle.theory_script.proofs.any_keys.missing_is_first.Goals as goal

pub returns : goal.returns
returns c = missing_is_first
