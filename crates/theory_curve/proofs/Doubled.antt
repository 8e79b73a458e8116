-- The doubled triple stands for the doubled point.
use Rattle.std.proofs.Common.{ℕ, ◌+◌, ◌*◌, ◌<◌, arith}
use Rattle.spec_curve.specs.Field.{minus, times, inverse}
use Rattle.theory_curve.specs.Jacobian.{Positive, Inverts}
use Rattle.theory_curve.proofs.Congruent.{Same, same_refl, same_of, same_sym, same_trans, same_add, same_mul, times_is, minus_is, minus_below, times_below}
use Rattle.theory_curve.proofs.Nonzero.{undone, positive_times}
use Rattle.theory_curve.proofs.Doubling.{slope_is, middle_is, last_is, first_is, second_is}

-- what a difference of two numbers below m gives back
pub minus_back : (m a b : ℕ) → b < m → Same m (minus m a b + b) a
minus_back m a b h = minus_is m a b (omega arith)

pub times_more : (m a b c : ℕ) → Same m b c → Same m (times m a b) (a * c)
times_more m a b c h = same_trans (times_is m a b) (same_mul (same_refl m a) h)

-- a doubling at any modulus at which each number has an inverse: the triple, the slope and the third point, by their equations
pub record Doubled (m x y s v w bx by bz cx cy cz : ℕ) : Type 0 where
  pub first : Same m cx (v * (cz * cz))
  pub second : Same m cy (w * (cz * cz * cz))

pub double_any : (m x y bx by bz : ℕ) → Inverts m → 2 < m → x < m → Positive m y → Positive m bz
    → Same m bx (x * (bz * bz)) → Same m by (y * (bz * bz * bz))
    → let s : ℕ = times m (times m 3 (times m x x)) (inverse m (times m 2 y)) in
    let v : ℕ = minus m (minus m (times m s s) x) x in
    let w : ℕ = minus m (times m s (minus m x v)) y in
    let yy : ℕ = times m by by in
    let bs : ℕ = times m 4 (times m bx yy) in
    let bm : ℕ = times m 3 (times m bx bx) in
    let cx : ℕ = minus m (minus m (times m bm bm) bs) bs in
    let cy : ℕ = minus m (times m bm (minus m bs cx)) (times m 8 (times m yy yy)) in
    let cz : ℕ = times m 2 (times m by bz) in
    Doubled m x y s v w bx by bz cx cy cz
double_any m x y bx by bz i two xs py pz hx hy =
    let pos : 0 < m = omega arith in
    let t : ℕ = times m 2 y in
    let s : ℕ = times m (times m 3 (times m x x)) (inverse m t) in
    let v : ℕ = minus m (minus m (times m s s) x) x in
    let w : ℕ = minus m (times m s (minus m x v)) y in
    let yy : ℕ = times m by by in
    let bs : ℕ = times m 4 (times m bx yy) in
    let bm : ℕ = times m 3 (times m bx bx) in
    let cx : ℕ = minus m (minus m (times m bm bm) bs) bs in
    let be : ℕ = times m 8 (times m yy yy) in
    let cz : ℕ = times m 2 (times m by bz) in
    let pt : Positive m t = positive_times i 2 y (record { above = omega arith; below = two }) py in
    let hs : Same m (s * (2 * y)) (3 * (x * x)) =
    same_trans (same_mul (times_is m (times m 3 (times m x x)) (inverse m t)) (same_sym (times_is m 2 y)))
    (same_trans (same_of m ((times m 3 (times m x x) * inverse m t) * t) (times m 3 (times m x x) * (t * inverse m t)) (omega arith))
    (same_trans (same_mul (times_more m 3 (times m x x) (x * x) (times_is m x x)) (undone i t pt)) (same_of m (3 * (x * x) * 1) (3 * (x * x)) (omega arith)))) in
    let hz : Same m cz (2 * (by * bz)) = times_more m 2 (times m by bz) (by * bz) (times_is m by bz) in
    let hm : Same m bm (3 * (bx * bx)) = times_more m 3 (times m bx bx) (bx * bx) (times_is m bx bx) in
    let hb : Same m bs (4 * (bx * (by * by))) = times_more m 4 (times m bx yy) (bx * (by * by)) (times_more m bx yy (by * by) (times_is m by by)) in
    let he : Same m be (8 * (by * by * (by * by))) =
    times_more m 8 (times m yy yy) (by * by * (by * by)) (same_trans (times_is m yy yy) (same_mul (times_is m by by) (times_is m by by))) in
    let am : Same m bm (s * cz) = slope_is m x y bz s bx by cz bm hx hy hm hz hs in
    let as_ : Same m bs (x * (cz * cz)) = middle_is m x y bz bx by cz bs hx hy hz hb in
    let ae : Same m be (y * (cz * cz * cz)) = last_is m y bz by cz be hy hz he in
    let sb : bs < m = times_below m 4 (times m bx yy) pos in
    let inner : ℕ = minus m (times m bm bm) bs in
    let gx : Same m (cx + bs + bs) (bm * bm) =
    same_trans (same_add (minus_back m inner bs sb) (same_refl m bs)) (same_trans (minus_back m (times m bm bm) bs sb) (times_is m bm bm)) in
    let gv : Same m (v + x + x) (s * s) =
    same_trans (same_add (minus_back m (minus m (times m s s) x) x xs) (same_refl m x)) (same_trans (minus_back m (times m s s) x xs) (times_is m s s)) in
    let ax : Same m cx (v * (cz * cz)) = first_is m x x s v cz bm bs bs cx pos am as_ as_ gx gv in
    let cs : cx < m = minus_below m inner bs pos in
    let vs : v < m = minus_below m (minus m (times m s s) x) x pos in
    let es : be < m = times_below m 8 (times m yy yy) pos in
    let ay : Same m (minus m (times m bm (minus m bs cx)) be) (w * (cz * cz * cz)) =
    second_is m x y s v w (minus m x v) cz bm bs cx (minus m (times m bm (minus m bs cx)) be) be (minus m bs cx) pos am as_ ax ae
    (minus_back m bs cx cs)
    (same_trans (minus_back m (times m bm (minus m bs cx)) be es) (times_is m bm (minus m bs cx)))
    (minus_back m x v vs)
    (same_trans (minus_back m (times m s (minus m x v)) y py.below) (times_is m s (minus m x v))) in
    record { first = ax; second = ay }
