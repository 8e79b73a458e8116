-- The sum of a triple and a point stands for the sum, where the first coordinates differ.
use Rattle.std.proofs.Common.{ℕ, ◌+◌, ◌*◌, ◌<◌, arith}
use Rattle.spec_curve.specs.Field.{minus, times, inverse}
use Rattle.theory_curve.specs.Jacobian.{Positive, Inverts}
use Rattle.theory_curve.proofs.Congruent.{Same, same_refl, same_of, same_trans, same_add, same_mul, times_is, minus_below, times_below}
use Rattle.theory_curve.proofs.Nonzero.{undone}
use Rattle.theory_curve.proofs.Doubling.{first_is, second_is}
use Rattle.theory_curve.proofs.Doubled.{minus_back, times_more}
use Rattle.theory_curve.proofs.Adding.{run_is, rise_is, near_is, far_is, last_is}

pub record Added (m v w cx cy cz : ℕ) : Type 0 where
  pub first : Same m cx (v * (cz * cz))
  pub second : Same m cy (w * (cz * cz * cz))

pub add_any : (m x y u t bx by bz : ℕ) → Inverts m → x < m → y < m → bx < m → by < m → Positive m (minus m u x)
    → Same m bx (x * (bz * bz)) → Same m by (y * (bz * bz * bz))
    → let s : ℕ = times m (minus m t y) (inverse m (minus m u x)) in
    let v : ℕ = minus m (minus m (times m s s) x) u in
    let w : ℕ = minus m (times m s (minus m x v)) y in
    let zz : ℕ = times m bz bz in
    let h : ℕ = minus m (times m u zz) bx in
    let r : ℕ = minus m (times m t (times m bz zz)) by in
    let hh : ℕ = times m h h in
    let g : ℕ = times m h hh in
    let bv : ℕ = times m bx hh in
    let cx : ℕ = minus m (minus m (minus m (times m r r) g) bv) bv in
    let cy : ℕ = minus m (times m r (minus m bv cx)) (times m by g) in
    u < m → Added m v w cx cy (times m bz h)
add_any m x y u t bx by bz i xs ys bxs bys pe hx hy us =
    let pos : 0 < m = omega arith in
    let e : ℕ = minus m u x in
    let f : ℕ = minus m t y in
    let s : ℕ = times m f (inverse m e) in
    let v : ℕ = minus m (minus m (times m s s) x) u in
    let w : ℕ = minus m (times m s (minus m x v)) y in
    let zz : ℕ = times m bz bz in
    let h : ℕ = minus m (times m u zz) bx in
    let r : ℕ = minus m (times m t (times m bz zz)) by in
    let hh : ℕ = times m h h in
    let g : ℕ = times m h hh in
    let bv : ℕ = times m bx hh in
    let inner : ℕ = minus m (minus m (times m r r) g) bv in
    let cx : ℕ = minus m inner bv in
    let cz : ℕ = times m bz h in
    let bk : ℕ = times m by g in
    let he : Same m (e + x) u = minus_back m u x xs in
    let hf : Same m (f + y) t = minus_back m t y ys in
    let hs : Same m (s * e) f =
    same_trans (same_mul (times_is m f (inverse m e)) (same_refl m e))
    (same_trans (same_of m ((f * inverse m e) * e) (f * (e * inverse m e)) (omega arith))
    (same_trans (same_mul (same_refl m f) (undone i e pe)) (same_of m (f * 1) f (omega arith)))) in
    let gh : Same m (h + bx) (u * (bz * bz)) =
    same_trans (minus_back m (times m u zz) bx bxs) (times_more m u zz (bz * bz) (times_is m bz bz)) in
    let gr : Same m (r + by) (t * (bz * bz * bz)) =
    same_trans (minus_back m (times m t (times m bz zz)) by bys)
    (same_trans (times_more m t (times m bz zz) (bz * (bz * bz)) (times_more m bz zz (bz * bz) (times_is m bz bz)))
    (same_of m (t * (bz * (bz * bz))) (t * (bz * bz * bz)) (omega arith))) in
    let gz : Same m cz (bz * h) = times_is m bz h in
    let gg : Same m g (h * (h * h)) = times_more m h hh (h * h) (times_is m h h) in
    let gv : Same m bv (bx * (h * h)) = times_more m bx hh (h * h) (times_is m h h) in
    let gk : Same m bk (by * (h * (h * h))) = times_more m by g (h * (h * h)) gg in
    let ah : Same m h (e * (bz * bz)) = run_is m x u e bz bx h pos hx gh he in
    let ar : Same m r (s * cz) = rise_is m y t f e s bz by h r cz pos hy gr hf hs ah gz in
    let av : Same m bv (x * (cz * cz)) = near_is m x bz bx h cz bv hx gz gv in
    let au : Same m (g + bv) (u * (cz * cz)) = far_is m x u e bz bx h cz g bv ah gz gg av he in
    let ak : Same m bk (y * (cz * cz * cz)) = last_is m y bz by h cz bk hy gz gk in
    let gs : g < m = times_below m h hh pos in
    let vs : bv < m = times_below m bx hh pos in
    let ks : bk < m = times_below m by g pos in
    let gx : Same m (cx + (g + bv) + bv) (r * r) =
    same_trans (same_of m (cx + (g + bv) + bv) (((cx + bv) + bv) + g) (omega arith))
    (same_trans (same_add (same_trans (same_add (minus_back m inner bv vs) (same_refl m bv)) (minus_back m (minus m (times m r r) g) bv vs)) (same_refl m g))
    (same_trans (minus_back m (times m r r) g gs) (times_is m r r))) in
    let hv : Same m (v + u + x) (s * s) =
    same_trans (same_add (minus_back m (minus m (times m s s) x) u us) (same_refl m x))
    (same_trans (minus_back m (times m s s) x xs) (times_is m s s)) in
    let ax : Same m cx (v * (cz * cz)) = first_is m x u s v cz r bv (g + bv) cx pos ar av au gx hv in
    let cs : cx < m = minus_below m inner bv pos in
    let ws : v < m = minus_below m (minus m (times m s s) x) u pos in
    let ay : Same m (minus m (times m r (minus m bv cx)) bk) (w * (cz * cz * cz)) =
    second_is m x y s v w (minus m x v) cz r bv cx (minus m (times m r (minus m bv cx)) bk) bk (minus m bv cx) pos ar av ax ak
    (minus_back m bv cx cs)
    (same_trans (minus_back m (times m r (minus m bv cx)) bk ks) (times_is m r (minus m bv cx)))
    (minus_back m x v ws)
    (same_trans (minus_back m (times m s (minus m x v)) y ys) (times_is m s (minus m x v))) in
    record { first = ax; second = ay }
