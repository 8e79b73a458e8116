use Rattle.std.proofs.Common.{◌≡◌, sym, subst, refl}
use Rattle.theory_curve.specs.Jacobian.{Triple, Stands}
use Rattle.spec_curve.specs.Point.{Point, infinity, add}
use Rattle.theory_curve.proofs.StandsAdd.{lifted}
use Rattle.curve_field.specs.Value.{value}
use Rattle.curve_point.specs.Coordinates.{triple_of, place_of}
use Rattle.curve_point.proofs.sums.sum_of.Goals as goal

alone : (q : Point) → add infinity q ≡ q
unfolding add
alone q = refl

pub returns-clause-same : goal.returns-clause-same
returns-clause-same c =
    let a = c.args.a in
    let e : triple_of c.lifted.result ≡ record { x = value a.x; y = value a.y; z = 1 } =
    λ i. record { x = value (c.lifted.ensures.x i); y = value (c.lifted.ensures.y i); z = c.lifted.ensures.one i } in
    let start : Stands (triple_of c.lifted.result) (place_of a) =
    subst (λ (r : Triple). Stands r (place_of a)) (sym e)
    (subst (Stands (record { x = value a.x; y = value a.y; z = 1 })) (alone (place_of a)) (lifted (value a.x) (value a.y) c.requires.first.x c.requires.first.y)) in
    c.to_affine.ensures.same (add (place_of a) (place_of c.args.b)) (c.join.ensures.stands (place_of a) start)
