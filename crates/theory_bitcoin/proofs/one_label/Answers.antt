use Rattle.theory_bitcoin.proofs.Labels.{one_label}
use Rattle.theory_bitcoin.proofs.one_label.Goals as goal

pub returns : goal.returns
returns c = one_label
