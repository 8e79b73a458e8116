-- Jacobian coordinates: (X, Y, Z) stands for the point (X / Z^2, Y / Z^3), and for infinity where Z is 0.
use Rattle.std.specs.Prelude.{◌≡◌, ℕ, ◌*◌, ◌%◌, ◌<◌}
use Rattle.spec_curve.specs.Field.{field_prime, minus, times, inverse}
use Rattle.spec_curve.specs.Point.{Point, infinity, at}

pub record Triple : Type 0 where
  pub x : ℕ
  pub y : ℕ
  pub z : ℕ

-- a is not 0 and below m
pub record Positive (m a : ℕ) : Type 0 where
  pub above : 0 < a
  pub below : a < m

-- the triple stands for (x, y)
pub record StandsAt (t : Triple) (x y : ℕ) : Type 0 where
  pub nonzero : Positive field_prime t.z
  pub first : t.x % field_prime ≡ (x * (t.z * t.z)) % field_prime
  pub second : t.y % field_prime ≡ (y * (t.z * t.z * t.z)) % field_prime
  pub x_below : x < field_prime
  pub y_below : y < field_prime
  pub s_below : t.x < field_prime
  pub t_below : t.y < field_prime

abbrev pub Stands : Triple → Point → Type 0
Stands t infinity = t.z ≡ 0
Stands t (at x y) = StandsAt t x y

-- each number but 0 has its power as its inverse
pub record Inverts (m : ℕ) : Type 0 where
  pub law : (a : ℕ) → 0 < a → a < m → (a * inverse m a) % m ≡ 1 % m

-- the doubled triple, as the code computes it
abbrev pub doubled : Triple → Triple
doubled t =
    let p : ℕ = field_prime in
    let yy : ℕ = times p t.y t.y in
    let s : ℕ = times p 4 (times p t.x yy) in
    let m : ℕ = times p 3 (times p t.x t.x) in
    let x : ℕ = minus p (minus p (times p m m) s) s in
    record {
      x = x;
      y = minus p (times p m (minus p s x)) (times p 8 (times p yy yy));
      z = times p 2 (times p t.y t.z);
    }

-- H and R of a sum of a triple and the point (u, v), as the code computes them
abbrev pub run : Triple → ℕ → ℕ
run t u = let p : ℕ = field_prime in minus p (times p u (times p t.z t.z)) t.x

abbrev pub rise : Triple → ℕ → ℕ
rise t v = let p : ℕ = field_prime in minus p (times p v (times p t.z (times p t.z t.z))) t.y

-- the sum where Z and H are not 0
abbrev pub added : Triple → ℕ → ℕ → Triple
added t u v =
    let p : ℕ = field_prime in
    let h : ℕ = run t u in
    let r : ℕ = rise t v in
    let hh : ℕ = times p h h in
    let g : ℕ = times p h hh in
    let b : ℕ = times p t.x hh in
    let x : ℕ = minus p (minus p (minus p (times p r r) g) b) b in
    record {
      x = x;
      y = minus p (times p r (minus p b x)) (times p t.y g);
      z = times p t.z h;
    }
