-- The binomial theorem.
use Rattle.std.proofs.Common.{◌≡◌, ℕ, zero, suc, ◌+◌, ◌*◌, ◌^◌, ◌<◌, arith, refl, ap, sym, ◌∙◌}
use Rattle.std.proofs.Math.Nat.{pow-zero, pow-suc}

unfoldable pub choose : ℕ → ℕ → ℕ
choose zero zero = 1
choose zero (suc k) = 0
choose (suc n) zero = 1
choose (suc n) (suc k) = choose n k + choose n (suc k)

-- the first m summands of (1 + x) ^ n
unfoldable pub part : ℕ → ℕ → ℕ → ℕ
part n x zero = 0
part n x (suc m) = part n x m + choose n m * x ^ m

pub choose-zero : (n : ℕ) → choose n 0 ≡ 1
unfolding choose
choose-zero zero = refl
choose-zero (suc n) = refl

pub choose_above : (n k : ℕ) → n < k → choose n k ≡ 0
unfolding choose
choose_above zero zero h = absurd (omega arith)
choose_above zero (suc k) h = refl
choose_above (suc n) zero h = absurd (omega arith)
choose_above (suc n) (suc k) h = omega (arith, choose_above n k (omega arith), choose_above n (suc k) (omega arith))

pub choose_self : (n : ℕ) → choose n n ≡ 1
unfolding choose
choose_self zero = refl
choose_self (suc n) = omega (arith, choose_self n, choose_above n (suc n) (omega arith))

pub absorbed : (n k : ℕ) → suc k * choose (suc n) (suc k) ≡ suc n * choose n k
unfolding choose
absorbed zero zero = refl
absorbed zero (suc k) = omega arith
absorbed (suc n) zero = omega (arith, absorbed n zero, choose-zero n, ap (λ z. suc n * z) (choose-zero n))
absorbed (suc n) (suc k) = omega (arith, absorbed n k, absorbed n (suc k))

part_step : (n x m : ℕ) → part (suc n) x (suc m) ≡ part n x (suc m) + x * part n x m
unfolding part
part_step n x zero = omega (arith, ap (λ z. z * x ^ 0) (choose-zero n), ap (λ z. z * x ^ 0) (choose-zero (suc n)))
part_step n x (suc m) =
    let pascal : choose (suc n) (suc m) ≡ choose n m + choose n (suc m) = unfold choose in refl in
    let one : choose (suc n) (suc m) * x ^ suc m ≡ choose n m * x ^ suc m + choose n (suc m) * x ^ suc m = ap (λ z. z * x ^ suc m) pascal ∙ omega arith in
    let two : choose n m * x ^ suc m ≡ x * (choose n m * x ^ m) = ap (λ z. choose n m * z) (pow-suc x m) ∙ omega arith in
    omega (arith, part_step n x m, one, two)

pub binomial : (n x : ℕ) → part n x (suc n) ≡ (1 + x) ^ n
unfolding part
binomial zero x = ap (λ z. 0 + z * x ^ 0) (choose-zero 0) ∙ (omega (arith, pow-zero x) ∙ sym (pow-zero (1 + x)))
binomial (suc n) x =
    let top : choose n (suc n) * x ^ suc n ≡ 0 = ap (λ z. z * x ^ suc n) (choose_above n (suc n) (omega arith)) ∙ omega arith in
    part_step n x (suc n)
    ∙ (omega (arith, top, binomial n x, ap (λ z. x * z) (binomial n x)) ∙ sym (pow-suc (1 + x) n))
