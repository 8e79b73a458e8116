use Rattle.std.proofs.Common.{◌≡◌, ◌∙◌, ap, sym, arith, length}
use Rattle.std.proofs.lemmas.List.{nil_from_length}
use Rattle.spec_curve.specs.Key.{point}
use Rattle.curve_key.proofs.Points.{point_empty}
use Rattle.curve_key.proofs.key.point_of_key.Goals as goal

pub returns-in-empty-clause-same : goal.returns-in-empty-clause-same
returns-in-empty-clause-same c =
    let none : length c.args.key.now ≡ 0 = omega arith in
    sym (ap point (nil_from_length c.args.key.now none) ∙ point_empty)
