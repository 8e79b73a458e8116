-- The sum of a triple and a point stands for the sum of the points, case by case.
use Rattle.std.proofs.Common.{◌≡◌, ℕ, ◌+◌, ◌*◌, ◌%◌, ◌<◌, arith, ap, sym, subst, ◌∙◌, inl, inr}
use Rattle.std.proofs.Math.Nat.{eq-zero-or-pos}
use Rattle.std.proofs.lemmas.Bool.{eq-eqb, ne_eqb}
use Rattle.spec_curve.specs.Field.{field_prime, minus, times, inverse}
use Rattle.spec_curve.specs.Point.{infinity, at, double, add, third}
use Rattle.theory_curve.specs.Jacobian.{Triple, Positive, StandsAt, Stands, Inverts, run, rise, added}
use Rattle.theory_curve.proofs.Congruent.{Same, same_refl, same_of, same_sym, same_trans, same_mul, same_cancel, same_eq, times_is, minus_below, times_below}
use Rattle.theory_curve.proofs.Nonzero.{same_divide, positive_times}
use Rattle.theory_curve.proofs.Doubled.{minus_back, times_more}
use Rattle.theory_curve.proofs.Added.{add_any}

-- ---- the cases of the definition

add_apart : (x y u v : ℕ) → (x ≡ u → ⊥) → add (at x y) (at u v)
    ≡ third (times field_prime (minus field_prime v y) (inverse field_prime (minus field_prime u x))) x y u
unfolding add
add_apart x y u v h = rw (ne_eqb x u h, add)

add_twice : (x y u v : ℕ) → x ≡ u → y ≡ v → add (at x y) (at u v) ≡ double (at x y)
unfolding add
add_twice x y u v h k = rw (eq-eqb x u h, eq-eqb y v k, add)

add_opposite : (x y u v : ℕ) → x ≡ u → (y ≡ v → ⊥) → add (at x y) (at u v) ≡ infinity
unfolding add
add_opposite x y u v h k = rw (eq-eqb x u h, ne_eqb y v k, add)

-- ---- what H and R tell

square_positive : Inverts field_prime → (z : ℕ) → Positive field_prime z → Positive field_prime (times field_prime z z)
square_positive i z h = positive_times i z z h h

cube_positive : Inverts field_prime → (z : ℕ) → Positive field_prime z → Positive field_prime (times field_prime z (times field_prime z z))
cube_positive i z h = positive_times i z (times field_prime z z) h (square_positive i z h)

-- a difference of 0 is of equal numbers
equal_of : (m a b : ℕ) → a < m → b < m → minus m a b ≡ 0 → a ≡ b
equal_of m a b p q e =
    same_eq (same_trans (same_sym (minus_back m a b q)) (same_of m (minus m a b + b) b (ap (λ z. z + b) e ∙ omega arith))) p q

minus_self : (m a : ℕ) → a < m → minus m a a ≡ 0
minus_self m a p =
    same_eq (same_cancel a (omega arith) (same_trans (minus_back m a a p) (same_of m a (0 + a) (omega arith)))) (minus_below m a a (omega arith)) (omega arith)

pub run_none : Inverts field_prime → (t : Triple) (x y u : ℕ) → StandsAt t x y → u < field_prime → run t u ≡ 0 → x ≡ u
run_none i t x y u h b e =
    let zz : ℕ = times field_prime t.z t.z in
    let flat : times field_prime u zz ≡ t.x = equal_of field_prime (times field_prime u zz) t.x (times_below field_prime u zz (omega arith)) h.s_below e in
    let both : Same field_prime (x * zz) (u * zz) =
    same_trans (same_mul (same_refl field_prime x) (times_is field_prime t.z t.z))
    (same_trans (record { is = sym h.first }) (same_trans (same_of field_prime _ _ (sym flat)) (times_is field_prime u zz))) in
    same_eq (same_divide i zz (square_positive i t.z h.nonzero) both) h.x_below b

pub run_same : (t : Triple) (x y u : ℕ) → StandsAt t x y → x ≡ u → run t u ≡ 0
run_same t x y u h e =
    let zz : ℕ = times field_prime t.z t.z in
    let flat : Same field_prime (times field_prime u zz) t.x =
    same_trans (times_more field_prime u zz (t.z * t.z) (times_is field_prime t.z t.z))
    (same_trans (same_of field_prime _ _ (ap (λ k. k * (t.z * t.z)) (sym e))) (record { is = sym h.first })) in
    let same : times field_prime u zz ≡ t.x = same_eq flat (times_below field_prime u zz (omega arith)) h.s_below in
    ap (λ k. minus field_prime k t.x) same ∙ minus_self field_prime t.x h.s_below

pub rise_none : Inverts field_prime → (t : Triple) (x y v : ℕ) → StandsAt t x y → v < field_prime → rise t v ≡ 0 → y ≡ v
rise_none i t x y v h b e =
    let zz : ℕ = times field_prime t.z t.z in
    let zzz : ℕ = times field_prime t.z zz in
    let flat : times field_prime v zzz ≡ t.y = equal_of field_prime (times field_prime v zzz) t.y (times_below field_prime v zzz (omega arith)) h.t_below e in
    let both : Same field_prime (y * zzz) (v * zzz) =
    same_trans (same_mul (same_refl field_prime y)
    (same_trans (times_more field_prime t.z zz (t.z * t.z) (times_is field_prime t.z t.z))
    (same_of field_prime (t.z * (t.z * t.z)) (t.z * t.z * t.z) (omega arith))))
    (same_trans (record { is = sym h.second }) (same_trans (same_of field_prime _ _ (sym flat)) (times_is field_prime v zzz))) in
    same_eq (same_divide i zzz (cube_positive i t.z h.nonzero) both) h.y_below b

pub rise_same : (t : Triple) (x y v : ℕ) → StandsAt t x y → y ≡ v → rise t v ≡ 0
rise_same t x y v h e =
    let zz : ℕ = times field_prime t.z t.z in
    let zzz : ℕ = times field_prime t.z zz in
    let flat : Same field_prime (times field_prime v zzz) t.y =
    same_trans (times_more field_prime v zzz (t.z * t.z * t.z)
    (same_trans (times_more field_prime t.z zz (t.z * t.z) (times_is field_prime t.z t.z))
    (same_of field_prime (t.z * (t.z * t.z)) (t.z * t.z * t.z) (omega arith))))
    (same_trans (same_of field_prime _ _ (ap (λ k. k * (t.z * t.z * t.z)) (sym e))) (record { is = sym h.second })) in
    let same : times field_prime v zzz ≡ t.y = same_eq flat (times_below field_prime v zzz (omega arith)) h.t_below in
    ap (λ k. minus field_prime k t.y) same ∙ minus_self field_prime t.y h.t_below

-- ---- the sum, where H is not 0

pub added_apart : Inverts field_prime → (t : Triple) (x y u v : ℕ) → StandsAt t x y → u < field_prime → 0 < run t u
    → Stands (added t u v) (add (at x y) (at u v))
added_apart i t x y u v h b p =
    let pos : 0 < field_prime = omega arith in
    let apart : x ≡ u → ⊥ = λ e. omega (arith, p, run_same t x y u h e) in
    let e : ℕ = minus field_prime u x in
    let pe : Positive field_prime e =
    elim (eq-zero-or-pos e) [
      | inl z ↦ absurd (apart (sym (equal_of field_prime u x b h.x_below z)))
      | inr g ↦ record { above = g; below = minus_below field_prime u x pos }
    ] in
    let ph : Positive field_prime (run t u) = record { above = p; below = minus_below field_prime _ _ pos } in
    let d = add_any field_prime x y u v t.x t.y t.z i h.x_below h.y_below h.s_below h.t_below pe (record { is = h.first }) (record { is = h.second }) b in
    subst (Stands (added t u v)) (sym (add_apart x y u v apart)) (record {
      nonzero = positive_times i t.z (run t u) h.nonzero ph;
      first = d.first.is;
      second = d.second.is;
      x_below = minus_below field_prime _ _ pos;
      y_below = minus_below field_prime _ _ pos;
      s_below = minus_below field_prime _ _ pos;
      t_below = minus_below field_prime _ _ pos;
    })

-- where H is 0 and R is not
pub added_opposite : Inverts field_prime → (t : Triple) (x y u v : ℕ) → StandsAt t x y → u < field_prime → run t u ≡ 0 → 0 < rise t v
    → add (at x y) (at u v) ≡ infinity
added_opposite i t x y u v h b e p =
    add_opposite x y u v (run_none i t x y u h b e) (λ k. omega (arith, p, rise_same t x y v h k))

-- where both are 0
pub added_twice : Inverts field_prime → (t : Triple) (x y u v : ℕ) → StandsAt t x y → u < field_prime → v < field_prime → run t u ≡ 0
    → rise t v ≡ 0 → add (at x y) (at u v) ≡ double (at x y)
added_twice i t x y u v h b c e k =
    add_twice x y u v (run_none i t x y u h b e) (rise_none i t x y v h c k)

one : (u : ℕ) → u ≡ u * 1
one u = omega arith

-- a point as a triple, which is the sum with infinity
pub lifted : (u v : ℕ) → u < field_prime → v < field_prime → Stands (record { x = u; y = v; z = 1 }) (add infinity (at u v))
unfolding add
lifted u v a b = record {
  nonzero = record { above = omega arith; below = omega arith };
  first = ap (λ k. k % field_prime) (one u);
  second = ap (λ k. k % field_prime) (one v);
  x_below = a;
  y_below = b;
  s_below = a;
  t_below = b;
}
