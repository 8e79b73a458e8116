use Rattle.theory_script.proofs.Keyed.OutputScripts.{scripts_are_listed}
use Rattle.theory_script.proofs.any_keys.scripts_are_listed.Goals as goal

pub returns : goal.returns
returns c = scripts_are_listed
