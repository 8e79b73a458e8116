-- Numbers with one remainder modulo m.
use Rattle.std.proofs.Common.{◌≡◌, ℕ, zero, suc, ◌+◌, ◌-◌, ◌*◌, ◌%◌, ◌<◌, ◌≤◌, arith, refl, ap, sym, ◌∙◌}
use Rattle.std.proofs.Math.Nat.{mod-mod, mod-eq_of_lt, add-mod, mod-lt, add-mul-mod_self_left}
use Rattle.std.proofs.lemmas.Nat.{mul-mod}
use Rattle.spec_curve.specs.Field.{plus, minus, times}

-- one remainder
pub record Same (m a b : ℕ) : Type 0 where
  pub is : a % m ≡ b % m

pub same_refl : (m a : ℕ) → Same m a a
same_refl m a = record { is = refl }

pub same_of : (m a b : ℕ) → a ≡ b → Same m a b
same_of m a b e = record { is = ap (λ z. z % m) e }

pub same_sym : {m a b : ℕ} → Same m a b → Same m b a
same_sym h = record { is = sym h.is }

pub same_trans : {m a b c : ℕ} → Same m a b → Same m b c → Same m a c
same_trans h k = record { is = h.is ∙ k.is }

pub same_mod : (m a : ℕ) → Same m (a % m) a
same_mod m a = record { is = mod-mod a m }

pub same_add : {m a b c d : ℕ} → Same m a b → Same m c d → Same m (a + c) (b + d)
same_add {m = m} {a = a} {b = b} {c = c} {d = d} h k = record {
  is = add-mod a c m ∙ (λ i. (h.is i + k.is i) % m) ∙ sym (add-mod b d m);
}

pub same_mul : {m a b c d : ℕ} → Same m a b → Same m c d → Same m (a * c) (b * d)
same_mul {m = m} {a = a} {b = b} {c = c} {d = d} h k = record {
  is = mul-mod a c m ∙ (λ i. (h.is i * k.is i) % m) ∙ sym (mul-mod b d m);
}

-- numbers below m that have one remainder are equal
pub same_eq : {m a b : ℕ} → Same m a b → a < m → b < m → a ≡ b
same_eq h p q = sym (mod-eq_of_lt p) ∙ h.is ∙ mod-eq_of_lt q

-- a multiple of m more
pub same_more : (m a k : ℕ) → Same m (a + m * k) a
same_more m a k = record { is = add-mul-mod_self_left a m k }

-- a summand in common
pub same_cancel : {m a b : ℕ} (c : ℕ) → 0 < m → Same m (a + c) (b + c) → Same m a b
same_cancel {m = zero} {a = a} {b = b} c p h = absurd (omega arith)
same_cancel {m = suc m} {a = a} {b = b} c p h =
    let n : ℕ = suc m in
    let up : (x : ℕ) → Same n ((x + c) + m * c) x =
    λ x. same_trans (same_of n ((x + c) + m * c) (x + n * c) (omega arith)) (same_more n x c) in
    same_trans (same_sym (up a)) (same_trans (same_add h (same_refl n (m * c))) (up b))

-- what sums, differences and products are
pub plus_is : (m a b : ℕ) → Same m (plus m a b) (a + b)
unfolding plus
plus_is m a b = same_mod m (a + b)

pub times_is : (m a b : ℕ) → Same m (times m a b) (a * b)
unfolding times
times_is m a b = same_mod m (a * b)

pub minus_is : (m a b : ℕ) → b ≤ m → Same m (minus m a b + b) a
unfolding minus
minus_is m a b l =
    same_trans (same_add (same_mod m (a + (m - b))) (same_refl m b))
    (same_trans (same_of m ((a + (m - b)) + b) (a + m * 1) (omega arith)) (same_more m a 1))

pub plus_below : (m a b : ℕ) → 0 < m → plus m a b < m
unfolding plus
plus_below m a b p = mod-lt (a + b) p

pub minus_below : (m a b : ℕ) → 0 < m → minus m a b < m
unfolding minus
minus_below m a b p = mod-lt (a + (m - b)) p

pub times_below : (m a b : ℕ) → 0 < m → times m a b < m
unfolding times
times_below m a b p = mod-lt (a * b) p
