-- What words stand for, and the laws of rows.
use Rattle.std.proofs.Common.{◌≡◌, ℕ, ◌+◌, ◌*◌, ◌^◌, ◌<◌, arith, refl}
use Rattle.curve_field.specs.declared.words.Words.{Words}
use Rattle.curve_field.specs.declared.words.Row.{Row}
use Rattle.spec_curve.specs.Field.{field_prime}
use Rattle.curve_field.specs.Value.{value, row_value}

pub value_is : (x : Words) → value x ≡ x.w0 + 2 ^ 64 * x.w1 + 2 ^ 128 * x.w2 + 2 ^ 192 * x.w3
unfolding value
value_is x = refl

pub four_rows : (x y0 y1 y2 y3 l0 l1 l2 l3 h0 h1 h2 h3 : ℕ)
    → l0 + 2 ^ 64 * h0 ≡ x * y0 + 0 → l1 + 2 ^ 64 * h1 ≡ x * y1 + h0 → l2 + 2 ^ 64 * h2 ≡ x * y2 + h1 → l3 + 2 ^ 64 * h3 ≡ x * y3 + h2
    → l0 + 2 ^ 64 * l1 + 2 ^ 128 * l2 + 2 ^ 192 * l3 + 2 ^ 256 * h3 ≡ x * (y0 + 2 ^ 64 * y1 + 2 ^ 128 * y2 + 2 ^ 192 * y3)
four_rows x y0 y1 y2 y3 l0 l1 l2 l3 h0 h1 h2 h3 a b c d = omega arith

pub four_steps : (y x0 x1 x2 x3 a0 a1 a2 a3 r0 r1 r2 r3 c0 c1 c2 c3 : ℕ)
    → r0 + 2 ^ 64 * c0 ≡ x0 * y + a0 + 0 → r1 + 2 ^ 64 * c1 ≡ x1 * y + a1 + c0 → r2 + 2 ^ 64 * c2 ≡ x2 * y + a2 + c1 → r3 + 2 ^ 64 * c3 ≡ x3 * y + a3 + c2
    → r0 + 2 ^ 64 * (r1 + 2 ^ 64 * r2 + 2 ^ 128 * r3 + 2 ^ 192 * c3)
    ≡ (x0 + 2 ^ 64 * x1 + 2 ^ 128 * x2 + 2 ^ 192 * x3) * y + (a0 + 2 ^ 64 * a1 + 2 ^ 128 * a2 + 2 ^ 192 * a3)
four_steps y x0 x1 x2 x3 a0 a1 a2 a3 r0 r1 r2 r3 c0 c1 c2 c3 a b c d = omega arith

-- each word fits 64 bits
pub record WordsFit (x : Words) : Type 0 where
  pub f0 : x.w0 < 2 ^ 64
  pub f1 : x.w1 < 2 ^ 64
  pub f2 : x.w2 < 2 ^ 64
  pub f3 : x.w3 < 2 ^ 64

pub value_below : (x : Words) → WordsFit x → value x < 2 ^ 256
value_below x f = omega (arith, value_is x, f.f0, f.f1, f.f2, f.f3)

-- the four words below the fifth
abbrev pub below_top : Row → Words
below_top r = record { w0 = r.low; w1 = r.high.w0; w2 = r.high.w1; w3 = r.high.w2 }

pub row_split : (r : Row) → value (below_top r) + 2 ^ 256 * r.high.w3 ≡ row_value r
row_split r = omega (arith, value_is (below_top r), value_is r.high)

pub single_is : (n : ℕ) → value (record { w0 = n; w1 = 0; w2 = 0; w3 = 0 }) ≡ n
single_is n = omega (arith, value_is (record { w0 = n; w1 = 0; w2 = 0; w3 = 0 }))

pub four_takes : (x0 x1 x2 x3 y0 y1 y2 y3 d0 d1 d2 d3 b0 b1 b2 b3 : ℕ)
    → d0 + y0 + 0 ≡ x0 + 2 ^ 64 * b0 → d1 + y1 + b0 ≡ x1 + 2 ^ 64 * b1 → d2 + y2 + b1 ≡ x2 + 2 ^ 64 * b2 → d3 + y3 + b2 ≡ x3 + 2 ^ 64 * b3
    → (d0 + 2 ^ 64 * d1 + 2 ^ 128 * d2 + 2 ^ 192 * d3) + (y0 + 2 ^ 64 * y1 + 2 ^ 128 * y2 + 2 ^ 192 * y3)
    ≡ (x0 + 2 ^ 64 * x1 + 2 ^ 128 * x2 + 2 ^ 192 * x3) + 2 ^ 256 * b3
four_takes x0 x1 x2 x3 y0 y1 y2 y3 d0 d1 d2 d3 b0 b1 b2 b3 a b c d = omega arith

pub prime_is : value (record { w0 = 0xFFFFFFFEFFFFFC2F; w1 = 0xFFFFFFFFFFFFFFFF; w2 = 0xFFFFFFFFFFFFFFFF; w3 = 0xFFFFFFFFFFFFFFFF }) ≡ field_prime
unfolding value
prime_is = refl
