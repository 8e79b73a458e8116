-- Fermat's theorem.
use Rattle.std.proofs.Common.{◌≡◌, ℕ, zero, suc, ◌+◌, ◌*◌, ◌^◌, ◌<◌, arith, refl, ap, sym, ◌∙◌}
use Rattle.std.proofs.Math.Nat.{pow-zero, pow-suc}
use Rattle.theory_curve.specs.Prime.{Prime}
use Rattle.theory_curve.proofs.Congruent.{Same, same_refl, same_of, same_trans, same_add, same_mul, same_more}
use Rattle.theory_curve.proofs.Inverse.{inverse_of, same_undo}
use Rattle.theory_curve.proofs.Choose.{choose, part, choose-zero, choose_self, absorbed, binomial}

-- the prime divides what stands between the first and the last
between : (p k : ℕ) → Prime (suc p) → suc k < suc p → Same (suc p) (choose (suc p) (suc k)) 0
between p k h l =
    same_undo (suc k) (inverse_of (suc p) (suc k) h (omega arith) l)
    (same_trans (same_of (suc p) _ _ (absorbed p k))
    (same_trans (same_of (suc p) (suc p * choose p k) (0 + suc p * choose p k) (omega arith))
    (same_trans (same_more (suc p) 0 (choose p k)) (same_of (suc p) 0 (suc k * 0) (omega arith)))))

part_is : (p x m : ℕ) → Prime (suc p) → m < suc p → Same (suc p) (part (suc p) x (suc m)) 1
unfolding part
part_is p x zero h l = same_of (suc p) _ _ (ap (λ z. 0 + z * x ^ 0) (choose-zero (suc p)) ∙ omega (arith, pow-zero x))
part_is p x (suc m) h l =
    same_trans (same_add (part_is p x m h (omega arith)) (same_mul (between p m h l) (same_refl (suc p) (x ^ suc m))))
    (same_of (suc p) (1 + 0 * x ^ suc m) 1 (omega arith))

-- x to the power p is x
pub little : (p x : ℕ) → Prime (suc p) → Same (suc p) (x ^ suc p) x
little p zero h = same_of (suc p) _ _ (pow-suc 0 p ∙ omega arith)
little p (suc x) h =
    let whole : Same (suc p) (part (suc p) x (suc p) + choose (suc p) (suc p) * x ^ suc p) (1 + x) =
    same_trans (same_add (part_is p x p h (omega arith)) (same_mul (same_of (suc p) _ _ (choose_self (suc p))) (little p x h)))
    (same_of (suc p) (1 + 1 * x) (1 + x) (omega arith)) in
    let opened : part (suc p) x (suc (suc p)) ≡ part (suc p) x (suc p) + choose (suc p) (suc p) * x ^ suc p = unfold part in refl in
    let base : suc x ≡ 1 + x = omega arith in
    same_trans (same_of (suc p) _ _ (ap (λ z. z ^ suc p) base ∙ (sym (binomial (suc p) x) ∙ opened)))
    (same_trans whole (same_of (suc p) (1 + x) (suc x) (omega arith)))

pub fermat : (p a : ℕ) → Prime (suc p) → 0 < a → a < suc p → Same (suc p) (a ^ p) 1
fermat p a h g l =
    same_undo a (inverse_of (suc p) a h g l)
    (same_trans (same_of (suc p) (a * a ^ p) (a ^ p * a) (omega arith))
    (same_trans (same_of (suc p) _ _ (sym (pow-suc a p)))
    (same_trans (little p a h) (same_of (suc p) a (a * 1) (omega arith)))))
