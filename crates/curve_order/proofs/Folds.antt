-- A number of which what stands at 2^256 is folded into what is below, modulo the order.
use Rattle.std.proofs.Common.{◌≡◌, ℕ, ◌+◌, ◌-◌, ◌*◌, ◌%◌, ◌^◌, ◌<◌, arith, refl, ap, sym, ◌∙◌}
use Rattle.std.proofs.Math.Nat.{mod-eq_of_lt, add-mul-mod_self_left}
use Rattle.curve_field.specs.Value.{value}
use Rattle.spec_curve.specs.Field.{group_order}
use Rattle.spec_curve.specs.Signature.{half_order}

pub order_is : value (record { w0 = 0xBFD25E8CD0364141; w1 = 0xBAAEDCE6AF48A03B; w2 = 0xFFFFFFFFFFFFFFFE; w3 = 0xFFFFFFFFFFFFFFFF }) ≡ group_order
unfolding value
order_is = refl

pub more_is : value (record { w0 = 0x402DA1732FC9BEBF; w1 = 0x4551231950B75FC4; w2 = 1; w3 = 0 }) ≡ 2 ^ 256 - group_order
unfolding value
more_is = refl

pub half_is : value (record { w0 = 0xDFE92F46681B20A0; w1 = 0x5D576E7357A4501D; w2 = 0xFFFFFFFFFFFFFFFF; w3 = 0x7FFFFFFFFFFFFFFF }) ≡ half_order
unfolding value
half_is = refl

pub exponent_is : value (record { w0 = 0xBFD25E8CD036413F; w1 = 0xBAAEDCE6AF48A03B; w2 = 0xFFFFFFFFFFFFFFFE; w3 = 0xFFFFFFFFFFFFFFFF }) ≡ group_order - 2
unfolding value
exponent_is = refl

-- the remainder, from the quotient
pub rest_is : (x v j : ℕ) → x ≡ v + group_order * j → v < group_order → v ≡ x % group_order
rest_is x v j e h = sym (ap (λ z. z % group_order) e ∙ (add-mul-mod_self_left v group_order j ∙ mod-eq_of_lt h))

-- a fold leaves the remainder alone
pub fold_same : (l h v : ℕ) → v ≡ l + h * (2 ^ 256 - group_order) → v % group_order ≡ (l + 2 ^ 256 * h) % group_order
fold_same l h v e =
    let a : l + 2 ^ 256 * h ≡ v + group_order * h = omega (arith, e) in
    sym (ap (λ z. z % group_order) a ∙ add-mul-mod_self_left v group_order h)

-- three folds leave less than twice the order
pub folds_below : (l0 h0 l1 h1 l2 h2 v : ℕ) → l0 < 2 ^ 256 → h0 < 2 ^ 256 → l1 < 2 ^ 256 → l2 < 2 ^ 256
    → l1 + 2 ^ 256 * h1 ≡ l0 + h0 * (2 ^ 256 - group_order) → l2 + 2 ^ 256 * h2 ≡ l1 + h1 * (2 ^ 256 - group_order) → v ≡ l2 + h2 * (2 ^ 256 - group_order)
    → v < 2 * group_order
folds_below l0 h0 l1 h1 l2 h2 v a b c d e f g =
    let one : h1 < 2 ^ 129 = omega arith in
    let two : h2 < 8 = omega arith in
    omega arith

-- the parts of a fold: the product f, the sum of the lower halves with its carry, and the upper half with it
pub fold_is : (l h fl fh lo carry hi top : ℕ) → l < 2 ^ 256 → h < 2 ^ 256 → carry < 2 ^ 64
    → fl + 2 ^ 256 * fh ≡ h * (2 ^ 256 - group_order) → lo + 2 ^ 256 * carry ≡ l * 1 + fl → hi + 2 ^ 256 * top ≡ fh * 1 + carry
    → lo + 2 ^ 256 * hi ≡ l + h * (2 ^ 256 - group_order)
fold_is l h fl fh lo carry hi top a b c d e f =
    let none : top ≡ 0 = omega arith in
    omega (arith, none)

-- where 2^256 is borrowed for the order to be taken off, the number is below the order
pub borrowed_below : (l rest borrow : ℕ) → rest < 2 ^ 256 → rest + group_order ≡ l + 2 ^ 256 * borrow → borrow ≡ 1 → l < group_order
borrowed_below l rest borrow a b c = omega arith
