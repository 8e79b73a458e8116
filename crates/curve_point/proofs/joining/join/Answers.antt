use Rattle.std.proofs.Common.{◌≡◌, ℕ, ◌<◌, ◌∙◌, arith, rules, sym, subst}
use Rattle.theory_curve.specs.Jacobian.{Triple, Stands, run, rise}
use Rattle.spec_curve.specs.Point.{at, add}
use Rattle.theory_curve.proofs.StandsAll.{join_none, join_apart, join_twice, join_opposite}
use Rattle.curve_field.specs.Value.{value}
use Rattle.curve_point.specs.Coordinates.{triple_of}
use Rattle.curve_point.proofs.joining.join.Goals as goal

pub returns-then-is_zero-clause-stands : goal.returns-then-is_zero-clause-stands
returns-then-is_zero-clause-stands c =
    let u : ℕ = value c.args.a.x in
    let v : ℕ = value c.args.a.y in
    let none : value c.args.t.z ≡ 0 = first_of (search rules, grind arith) in
    let e : triple_of c.lifted.result ≡ record { x = u; y = v; z = 1 } =
    λ i. record { x = value (c.lifted.ensures.x i); y = value (c.lifted.ensures.y i); z = c.lifted.ensures.one i } in
    λ q h. subst (λ (r : Triple). Stands r (add q (at u v))) (sym e)
    (join_none (triple_of c.args.t) q u v none c.requires.there.x c.requires.there.y h)

pub returns-then-not-is_zero-clause-stands : goal.returns-then-not-is_zero-clause-stands
returns-then-not-is_zero-clause-stands c =
    let u : ℕ = value c.args.a.x in
    let v : ℕ = value c.args.a.y in
    let t : Triple = triple_of c.args.t in
    let some : 0 < value c.args.t.z = first_of (search rules, grind arith) in
    let h_some : 0 < value c.subtract-h.result = first_of (search rules, grind arith) in
    let h_is : value c.subtract-h.result ≡ run t u = cc in
    let positive : 0 < run t u = omega (arith, h_some, h_is) in
    λ q h. subst (λ (r : Triple). Stands r (add q (at u v))) (sym c.add_triple.ensures.same)
    (join_apart t q u v some c.requires.there.x positive h)

pub returns-then-is_zero-2-clause-stands : goal.returns-then-is_zero-2-clause-stands
returns-then-is_zero-2-clause-stands c =
    let u : ℕ = value c.args.a.x in
    let v : ℕ = value c.args.a.y in
    let t : Triple = triple_of c.args.t in
    let some : 0 < value c.args.t.z = first_of (search rules, grind arith) in
    let h_none : value c.subtract-h.result ≡ 0 = first_of (search rules, grind arith) in
    let r_none : value c.subtract-r.result ≡ 0 = first_of (search rules, grind arith) in
    let h_is : value c.subtract-h.result ≡ run t u = cc in
    let r_is : value c.subtract-r.result ≡ rise t v = cc in
    λ q h. join_twice t (triple_of c.twice.result) q u v some c.requires.there.x c.requires.there.y (sym h_is ∙ h_none) (sym r_is ∙ r_none) h
    (c.twice.ensures.stands q h)

pub returns-clause-stands : goal.returns-clause-stands
returns-clause-stands c =
    let u : ℕ = value c.args.a.x in
    let v : ℕ = value c.args.a.y in
    let t : Triple = triple_of c.args.t in
    let some : 0 < value c.args.t.z = first_of (search rules, grind arith) in
    let h_none : value c.subtract-h.result ≡ 0 = first_of (search rules, grind arith) in
    let r_some : 0 < value c.subtract-r.result = first_of (search rules, grind arith) in
    let h_is : value c.subtract-h.result ≡ run t u = cc in
    let r_is : value c.subtract-r.result ≡ rise t v = cc in
    let positive : 0 < rise t v = omega (arith, r_some, r_is) in
    λ q h. join_opposite t (triple_of c.nowhere.result) q u v some c.requires.there.x (sym h_is ∙ h_none) positive c.nowhere.ensures.zero h
