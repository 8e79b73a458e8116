-- Where each number but 0 has an inverse, a product of two of them is not 0.
use Rattle.std.proofs.Common.{◌≡◌, ℕ, ◌*◌, ◌<◌, arith, ◌∙◌, inl, inr}
use Rattle.std.proofs.Math.Nat.{eq-zero-or-pos}
use Rattle.spec_curve.specs.Field.{times, inverse}
use Rattle.theory_curve.specs.Jacobian.{Inverts, Positive}
use Rattle.theory_curve.proofs.Congruent.{Same, same_refl, same_of, same_sym, same_trans, same_mul, same_eq, times_is, times_below}

pub undone : {m : ℕ} (i : Inverts m) (a : ℕ) → Positive m a → Same m (a * inverse m a) 1
undone i a p = record { is = i.law a p.above p.below }

-- a common factor that is not 0
pub same_divide : {m a b : ℕ} (i : Inverts m) (c : ℕ) → Positive m c → Same m (a * c) (b * c) → Same m a b
same_divide {m = m} {a = a} {b = b} i c p h =
    let back : (x : ℕ) → Same m ((x * c) * inverse m c) x =
    λ x. same_trans (same_of m ((x * c) * inverse m c) (x * (c * inverse m c)) (omega arith))
    (same_trans (same_mul (same_refl m x) (undone i c p)) (same_of m (x * 1) x (omega arith))) in
    same_trans (same_sym (back a)) (same_trans (same_mul h (same_refl m (inverse m c))) (back b))

pub positive_times : {m : ℕ} (i : Inverts m) (a b : ℕ) → Positive m a → Positive m b → Positive m (times m a b)
positive_times {m = m} i a b p q =
    let pos : 0 < m = omega (arith, q.below) in
    elim (eq-zero-or-pos (times m a b)) [
      | inl e ↦
          let none : Same m (b * a) (0 * a) =
          same_trans (same_of m (b * a) (a * b) (omega arith))
          (same_trans (same_sym (times_is m a b)) (same_of m (times m a b) (0 * a) (e ∙ omega arith))) in
          let z : b ≡ 0 = same_eq (same_divide i a p none) q.below pos in
          absurd (omega (arith, q.above, z))
      | inr h ↦ record { above = h; below = times_below m a b pos }
    ]
