-- A doubling in Jacobian coordinates: X is x * Z^2, Y is y * Z^3. All modulo m.
-- s is the slope: s * (2 * y) is 3 * x^2; v is s^2 - 2 * x; w is s * (x - v) - y.
use Rattle.std.proofs.Common.{◌≡◌, ℕ, ◌+◌, ◌*◌, ◌<◌, arith}
use Rattle.theory_curve.proofs.Congruent.{Same, same_refl, same_of, same_sym, same_trans, same_add, same_mul, same_cancel}

-- M is s times the new Z
pub slope_is : (m x y z s bx by bz bm : ℕ)
    → Same m bx (x * (z * z)) → Same m by (y * (z * z * z)) → Same m bm (3 * (bx * bx)) → Same m bz (2 * (by * z))
    → Same m (s * (2 * y)) (3 * (x * x)) → Same m bm (s * bz)
slope_is m x y z s bx by bz bm hx hy hm hz hs =
    let one : Same m (3 * (bx * bx)) (3 * ((x * (z * z)) * (x * (z * z)))) = same_mul (same_refl m 3) (same_mul hx hx) in
    let two : 3 * ((x * (z * z)) * (x * (z * z))) ≡ (3 * (x * x)) * (z * z * (z * z)) = omega arith in
    let three : Same m ((3 * (x * x)) * (z * z * (z * z))) ((s * (2 * y)) * (z * z * (z * z))) = same_mul (same_sym hs) (same_refl m _) in
    let four : (s * (2 * y)) * (z * z * (z * z)) ≡ s * (2 * ((y * (z * z * z)) * z)) = omega arith in
    let five : Same m (s * (2 * ((y * (z * z * z)) * z))) (s * (2 * (by * z))) = same_mul (same_refl m s) (same_mul (same_refl m 2) (same_mul (same_sym hy) (same_refl m z))) in
    same_trans hm (same_trans one (same_trans (same_of m _ _ two)
    (same_trans three (same_trans (same_of m _ _ four) (same_trans five (same_mul (same_refl m s) (same_sym hz)))))))

-- S is x times the square of the new Z
pub middle_is : (m x y z bx by bz bs : ℕ)
    → Same m bx (x * (z * z)) → Same m by (y * (z * z * z)) → Same m bz (2 * (by * z)) → Same m bs (4 * (bx * (by * by)))
    → Same m bs (x * (bz * bz))
middle_is m x y z bx by bz bs hx hy hz hs =
    let one : Same m (4 * (bx * (by * by))) (4 * ((x * (z * z)) * (by * by))) = same_mul (same_refl m 4) (same_mul hx (same_refl m _)) in
    let two : 4 * ((x * (z * z)) * (by * by)) ≡ x * ((2 * (by * z)) * (2 * (by * z))) = omega arith in
    same_trans hs (same_trans one (same_trans (same_of m _ _ two) (same_mul (same_refl m x) (same_mul (same_sym hz) (same_sym hz)))))

-- 8 * Y^4 is y times the cube of the new Z
pub last_is : (m y z by bz be : ℕ)
    → Same m by (y * (z * z * z)) → Same m bz (2 * (by * z)) → Same m be (8 * (by * by * (by * by)))
    → Same m be (y * (bz * bz * bz))
last_is m y z by bz be hy hz he =
    let one : Same m (8 * (by * by * (by * by))) (8 * ((y * (z * z * z)) * (by * (by * by)))) =
    same_trans (same_of m (8 * (by * by * (by * by))) (8 * (by * (by * (by * by)))) (omega arith)) (same_mul (same_refl m 8) (same_mul hy (same_refl m _))) in
    let two : 8 * ((y * (z * z * z)) * (by * (by * by))) ≡ y * ((2 * (by * z)) * (2 * (by * z)) * (2 * (by * z))) = omega arith in
    same_trans he (same_trans one (same_trans (same_of m _ _ two)
    (same_mul (same_refl m y) (same_mul (same_mul (same_sym hz) (same_sym hz)) (same_sym hz)))))

-- the new X: from M = s * Z', S = x * Z'^2, X' + 2 * S = M^2 and v + x + u = s^2, where S' = u * Z'^2
pub first_is : (m x u s v bz bm bs bu bx : ℕ) → 0 < m
    → Same m bm (s * bz) → Same m bs (x * (bz * bz)) → Same m bu (u * (bz * bz))
    → Same m (bx + bu + bs) (bm * bm) → Same m (v + u + x) (s * s)
    → Same m bx (v * (bz * bz))
first_is m x u s v bz bm bs bu bx pos hm hs hu hx hv =
    let q : ℕ = bz * bz in
    let left : Same m (bx + (u * q + x * q)) (bx + bu + bs) =
    same_trans (same_add (same_refl m bx) (same_add (same_sym hu) (same_sym hs))) (same_of m _ _ (omega arith)) in
    let square : Same m (bm * bm) ((s * bz) * (s * bz)) = same_mul hm hm in
    let turn : (s * bz) * (s * bz) ≡ (s * s) * (bz * bz) = omega arith in
    let right : Same m ((s * s) * (bz * bz)) ((v + u + x) * (bz * bz)) = same_mul (same_sym hv) (same_refl m _) in
    let open_ : (v + u + x) * (bz * bz) ≡ v * (bz * bz) + (u * (bz * bz) + x * (bz * bz)) = omega arith in
    same_cancel (u * q + x * q) pos
    (same_trans left (same_trans hx (same_trans square (same_trans (same_of m _ _ turn) (same_trans right (same_of m _ _ open_))))))

-- the new Y: Y' + y * Z'^3 is M * D, where D + X' = S; and w + y is s * d, where d + v = x
pub second_is : (m x y s v w d bz bm bs bx by be bd : ℕ) → 0 < m
    → Same m bm (s * bz) → Same m bs (x * (bz * bz)) → Same m bx (v * (bz * bz)) → Same m be (y * (bz * bz * bz))
    → Same m (bd + bx) bs → Same m (by + be) (bm * bd) → Same m (d + v) x → Same m (w + y) (s * d)
    → Same m by (w * (bz * bz * bz))
second_is m x y s v w d bz bm bs bx by be bd pos hm hs hx he hd hy hv hw =
    let q : ℕ = bz * bz in
    -- D is d * Z'^2
    let one : Same m (bd + v * q) (d * q + v * q) =
    same_trans (same_add (same_refl m bd) (same_sym hx)) (same_trans hd (same_trans hs (same_trans (same_mul (same_sym hv) (same_refl m q)) (same_of m _ _ (omega arith))))) in
    let two : Same m bd (d * q) = same_cancel (v * q) pos one in
    let three : Same m (by + y * (bz * bz * bz)) ((s * bz) * (d * q)) =
    same_trans (same_add (same_refl m by) (same_sym he)) (same_trans hy (same_mul hm two)) in
    let turn : (s * bz) * (d * (bz * bz)) ≡ (s * d) * (bz * bz * bz) = omega arith in
    let four : Same m ((s * d) * (bz * bz * bz)) (w * (bz * bz * bz) + y * (bz * bz * bz)) =
    same_trans (same_mul (same_sym hw) (same_refl m _)) (same_of m _ _ (omega arith)) in
    same_cancel (y * (bz * bz * bz)) pos (same_trans three (same_trans (same_of m _ _ turn) four))
