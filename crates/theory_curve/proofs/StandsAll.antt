-- Each sum of a triple, whatever point it stands for.
use Rattle.std.proofs.Common.{◌≡◌, ℕ, ◌<◌, arith, sym, subst, inl, inr}
use Rattle.std.proofs.Math.Nat.{eq-zero-or-pos}
use Rattle.spec_curve.specs.Field.{field_prime}
use Rattle.spec_curve.specs.Point.{Point, infinity, at, double, add}
use Rattle.theory_curve.specs.Jacobian.{Triple, Stands, doubled, run, rise, added}
use Rattle.theory_curve.proofs.Inverts.{field_inverts}
use Rattle.theory_curve.proofs.StandsDouble.{doubled_none, doubled_flat, doubled_some}
use Rattle.theory_curve.proofs.StandsAdd.{added_apart, added_opposite, added_twice, lifted}

pub doubled_stands : (t : Triple) (a : Point) → Stands t a → Stands (doubled t) (double a)
doubled_stands t infinity h = doubled_none t h
doubled_stands t (at x y) h =
    elim (eq-zero-or-pos y) [
      | inl e ↦ doubled_flat t x y h e
      | inr p ↦ doubled_some field_inverts t x y h p
    ]

pub join_none : (t : Triple) (a : Point) (u v : ℕ) → t.z ≡ 0 → u < field_prime → v < field_prime → Stands t a
    → Stands (record { x = u; y = v; z = 1 }) (add a (at u v))
join_none t infinity u v e p q h = lifted u v p q
join_none t (at x y) u v e p q h = absurd (omega (arith, e, h.nonzero.above))

pub join_apart : (t : Triple) (a : Point) (u v : ℕ) → 0 < t.z → u < field_prime → 0 < run t u → Stands t a → Stands (added t u v) (add a (at u v))
join_apart t infinity u v z p r h = absurd (omega (arith, z, h))
join_apart t (at x y) u v z p r h = added_apart field_inverts t x y u v h p r

pub join_twice : (t r : Triple) (a : Point) (u v : ℕ) → 0 < t.z → u < field_prime → v < field_prime → run t u ≡ 0 → rise t v ≡ 0
    → Stands t a → Stands r (double a) → Stands r (add a (at u v))
join_twice t r infinity u v z p q e f h s = absurd (omega (arith, z, h))
join_twice t r (at x y) u v z p q e f h s = subst (Stands r) (sym (added_twice field_inverts t x y u v h p q e f)) s

pub join_opposite : (t r : Triple) (a : Point) (u v : ℕ) → 0 < t.z → u < field_prime → run t u ≡ 0 → 0 < rise t v → r.z ≡ 0
    → Stands t a → Stands r (add a (at u v))
join_opposite t r infinity u v z p e f n h = absurd (omega (arith, z, h))
join_opposite t r (at x y) u v z p e f n h = subst (Stands r) (sym (added_opposite field_inverts t x y u v h p e f)) n
