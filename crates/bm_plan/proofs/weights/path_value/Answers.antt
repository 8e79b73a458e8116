use Rattle.spec_bitcoin.specs.Keys.{path_text}
use Rattle.bm_plan.proofs.weights.path_value.Goals as goal

pub returns : goal.returns
returns c = c.transaction_value.ensures (path_text c.args.path.now) c.in_ok-name.ensures
