use Rattle.theory_limits.proofs.Fitting.{fitting_is}
use Rattle.theory_limits.proofs.unmarked_adverts_fit.Goals as goal

pub returns : goal.returns
returns c = fitting_is
