use Rattle.curve_order.proofs.Folds.{more_is}
use Rattle.curve_order.proofs.modular.more.Goals as goal

pub returns : goal.returns
returns c = more_is
