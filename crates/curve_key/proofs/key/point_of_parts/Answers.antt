use Rattle.std.proofs.Common.{◌≡◌, ◌∙◌, ap, sym, arith, true, false}
use Rattle.spec_curve.specs.Key.{is_sign, is_coordinate, point_at}
use Rattle.curve_key.proofs.Points.{point_parts, point_signless, point_above}
use Rattle.curve_key.proofs.key.point_of_parts.Goals as goal

pub returns-then-not-is_sign-clause-same : goal.returns-then-not-is_sign-clause-same
returns-then-not-is_sign-clause-same c =
    let e : is_sign c.args.sign ≡ false = first_of (cc, grind arith) in
    sym (point_signless c.args.sign c.args.bytes.now e)

pub returns-then-not-is_coordinate-clause-same : goal.returns-then-not-is_coordinate-clause-same
returns-then-not-is_coordinate-clause-same c =
    let e : is_coordinate c.args.bytes.now ≡ false = first_of (cc, grind arith) in
    sym (point_above c.args.sign c.args.bytes.now e)

pub returns-clause-same : goal.returns-clause-same
returns-clause-same c =
    let e : is_sign c.args.sign ≡ true = first_of (cc, grind arith) in
    let f : is_coordinate c.args.bytes.now ≡ true = first_of (cc, grind arith) in
    c.point_at.ensures.same ∙ (ap (λ z. point_at c.args.sign z) c.from_bytes.ensures ∙ sym (point_parts c.args.sign c.args.bytes.now e f))
