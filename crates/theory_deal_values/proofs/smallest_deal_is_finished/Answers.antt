use Rattle.theory_deal_values.proofs.SignedFiles.{finished}
use Rattle.theory_deal_values.proofs.smallest_deal_is_finished.Goals as goal

pub returns : goal.returns
returns c = finished
