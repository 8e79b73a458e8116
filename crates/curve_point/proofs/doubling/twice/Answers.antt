use Rattle.std.proofs.Common.{sym, subst}
use Rattle.theory_curve.specs.Jacobian.{Triple, Stands}
use Rattle.spec_curve.specs.Point.{double}
use Rattle.theory_curve.proofs.StandsAll.{doubled_stands}
use Rattle.curve_point.specs.Coordinates.{triple_of}
use Rattle.curve_point.proofs.doubling.twice.Goals as goal

pub returns-clause-stands : goal.returns-clause-stands
returns-clause-stands c = λ a h. subst (λ (t : Triple). Stands t (double a)) (sym c.double_triple.ensures.same) (doubled_stands (triple_of c.args.t) a h)
