use Rattle.std.proofs.Common.{sym}
use Rattle.spec_curve.specs.Key.{number_of}
use Rattle.curve_field.specs.Value.{value}
use Rattle.curve_point.specs.Coordinates.{place_of}
use Rattle.curve_verify.proofs.Verdicts.{large_r_fails, large_s_fails}
use Rattle.curve_verify.proofs.verdict.signs.Goals as goal

pub returns-in-None-number : goal.returns-in-None-number
returns-in-None-number c =
    sym (large_s_fails (value c.args.z) (number_of c.args.r.now) (number_of c.args.s.now) (place_of c.args.key) c.in-None-number.ensures)

pub returns-in-None : goal.returns-in-None
returns-in-None c = sym (large_r_fails (value c.args.z) (number_of c.args.r.now) (number_of c.args.s.now) (place_of c.args.key) c.in-None.ensures)
