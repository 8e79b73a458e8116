use Rattle.theory_script.proofs.Listing.Transactions.{paths_are_listed}
use Rattle.theory_script.proofs.paths_are_listed.Goals as goal

pub returns : goal.returns
returns c = paths_are_listed
