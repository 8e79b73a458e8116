-- A sum with a point (u, t) of Z = 1 in Jacobian coordinates: H is u * Z^2 - X, R is t * Z^3 - Y, the new Z is Z * H.
-- s is the slope: s * e is f, where e + x = u and f + y = t.
use Rattle.std.proofs.Common.{◌≡◌, ℕ, ◌+◌, ◌*◌, ◌<◌, arith}
use Rattle.theory_curve.proofs.Congruent.{Same, same_refl, same_of, same_sym, same_trans, same_add, same_mul, same_cancel}

-- H is e * Z^2
pub run_is : (m x u e z bx bh : ℕ) → 0 < m
    → Same m bx (x * (z * z)) → Same m (bh + bx) (u * (z * z)) → Same m (e + x) u → Same m bh (e * (z * z))
run_is m x u e z bx bh pos hx hh he =
    same_cancel (x * (z * z)) pos
    (same_trans (same_add (same_refl m bh) (same_sym hx))
    (same_trans hh (same_trans (same_mul (same_sym he) (same_refl m _)) (same_of m _ _ (omega arith)))))

-- R is s times the new Z
pub rise_is : (m y t f e s z by bh br bz : ℕ) → 0 < m
    → Same m by (y * (z * z * z)) → Same m (br + by) (t * (z * z * z)) → Same m (f + y) t → Same m (s * e) f
    → Same m bh (e * (z * z)) → Same m bz (z * bh) → Same m br (s * bz)
rise_is m y t f e s z by bh br bz pos hy hr hf hs hh hz =
    let one : Same m br (f * (z * z * z)) =
    same_cancel (y * (z * z * z)) pos
    (same_trans (same_add (same_refl m br) (same_sym hy))
    (same_trans hr (same_trans (same_mul (same_sym hf) (same_refl m _)) (same_of m _ _ (omega arith))))) in
    let two : (s * e) * (z * z * z) ≡ s * (z * (e * (z * z))) = omega arith in
    same_trans one (same_trans (same_mul (same_sym hs) (same_refl m _)) (same_trans (same_of m _ _ two)
    (same_mul (same_refl m s) (same_trans (same_mul (same_refl m z) (same_sym hh)) (same_sym hz)))))

-- X * H^2 is x * Z'^2
pub near_is : (m x z bx bh bz bv : ℕ) → Same m bx (x * (z * z)) → Same m bz (z * bh) → Same m bv (bx * (bh * bh)) → Same m bv (x * (bz * bz))
near_is m x z bx bh bz bv hx hz hv =
    let one : (x * (z * z)) * (bh * bh) ≡ x * ((z * bh) * (z * bh)) = omega arith in
    same_trans hv (same_trans (same_mul hx (same_refl m _)) (same_trans (same_of m _ _ one) (same_mul (same_refl m x) (same_mul (same_sym hz) (same_sym hz)))))

-- H^3 and X * H^2 are u * Z'^2
pub far_is : (m x u e z bx bh bz bg bv : ℕ)
    → Same m bh (e * (z * z)) → Same m bz (z * bh) → Same m bg (bh * (bh * bh)) → Same m bv (x * (bz * bz)) → Same m (e + x) u
    → Same m (bg + bv) (u * (bz * bz))
far_is m x u e z bx bh bz bg bv hh hz hg hv he =
    let one : (e * (z * z)) * (bh * bh) ≡ e * ((z * bh) * (z * bh)) = omega arith in
    let two : Same m bg (e * (bz * bz)) =
    same_trans hg (same_trans (same_mul hh (same_refl m _)) (same_trans (same_of m _ _ one) (same_mul (same_refl m e) (same_mul (same_sym hz) (same_sym hz))))) in
    same_trans (same_add two hv) (same_trans (same_of m (e * (bz * bz) + x * (bz * bz)) ((e + x) * (bz * bz)) (omega arith)) (same_mul he (same_refl m _)))

-- Y * H^3 is y * Z'^3
pub last_is : (m y z by bh bz bk : ℕ) → Same m by (y * (z * z * z)) → Same m bz (z * bh) → Same m bk (by * (bh * (bh * bh))) → Same m bk (y * (bz * bz * bz))
last_is m y z by bh bz bk hy hz hk =
    let one : (y * (z * z * z)) * (bh * (bh * bh)) ≡ y * ((z * bh) * (z * bh) * (z * bh)) = omega arith in
    same_trans hk (same_trans (same_mul hy (same_refl m _)) (same_trans (same_of m _ _ one)
    (same_mul (same_refl m y) (same_mul (same_mul (same_sym hz) (same_sym hz)) (same_sym hz)))))
