use Rattle.curve_order.proofs.Folds.{order_is}
use Rattle.curve_order.proofs.modular.order.Goals as goal

pub returns : goal.returns
returns c = order_is
