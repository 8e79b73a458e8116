use Rattle.theory_tool.proofs.Example.{run_with_offers}
use Rattle.theory_tool.proofs.runs_with_offers_exist.Goals as goal

pub returns : goal.returns
returns c = run_with_offers
