use Rattle.theory_script.proofs.Listing.OutputScripts.{scripts_are_listed}
use Rattle.theory_script.proofs.scripts_are_listed.Goals as goal

pub returns : goal.returns
returns c = scripts_are_listed
