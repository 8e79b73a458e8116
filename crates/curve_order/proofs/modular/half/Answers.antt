use Rattle.curve_order.proofs.Folds.{half_is}
use Rattle.curve_order.proofs.modular.half.Goals as goal

pub returns : goal.returns
returns c = half_is
