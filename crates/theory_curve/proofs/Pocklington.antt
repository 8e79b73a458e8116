-- Pocklington's test, and powers by squares.
use Rattle.std.proofs.Common.{◌≡◌, ℕ, zero, suc, ◌+◌, ◌-◌, ◌*◌, ◌/◌, ◌%◌, ◌^◌, ◌<◌, ◌≤◌, arith, ap, sym, ◌∙◌, inl, inr, ◌⊎◌}
use Rattle.std.proofs.Math.Nat.{pow-zero, pow-suc, eq-zero-or-pos, mod-lt, div-add-mod, mod-add-div, mul-le-mul, mod-eq_of_lt, zero-mod}
use Rattle.std.proofs.lemmas.Nat.{pow-add}
use Rattle.theory_curve.specs.Prime.{Prime}
use Rattle.theory_curve.proofs.Congruent.{Same, same_refl, same_of, same_sym, same_trans, same_add, same_mul, same_more, same_mod}
use Rattle.theory_curve.proofs.Inverse.{Inverse, inverse_of, same_undo}
use Rattle.theory_curve.proofs.Fermat.{fermat}

-- ---- powers

regroup : (r k b : ℕ) → (r * k) * b ≡ 0 + r * (k * b)
regroup r k b = omega arith

pub one_pow : (n : ℕ) → 1 ^ n ≡ 1
one_pow zero = pow-zero 1
one_pow (suc n) = pow-suc 1 n ∙ omega (arith, one_pow n)

pub pow_mul : (a i j : ℕ) → a ^ (i * j) ≡ (a ^ i) ^ j
pow_mul a i zero = let e : i * zero ≡ 0 = omega arith in ap (λ z. a ^ z) e ∙ (pow-zero a ∙ sym (pow-zero (a ^ i)))
pow_mul a i (suc j) =
    let e : i * suc j ≡ i * j + i = omega arith in
    ap (λ z. a ^ z) e ∙ (pow-add a (i * j) i ∙ (ap (λ z. z * a ^ i) (pow_mul a i j) ∙ sym (pow-suc (a ^ i) j)))

pub same_pow : {m a b : ℕ} (k : ℕ) → Same m a b → Same m (a ^ k) (b ^ k)
same_pow {m = m} {a = a} {b = b} zero h = same_of m _ _ (pow-zero a ∙ sym (pow-zero b))
same_pow {m = m} {a = a} {b = b} (suc k) h =
    same_trans (same_of m _ _ (pow-suc a k)) (same_trans (same_mul (same_pow k h) h) (same_of m _ _ (sym (pow-suc b k))))

-- ---- the least divisor

-- a divisor of c between 1 and k
pub record Divisor (c k : ℕ) : Type 0 where
  pub number : ℕ
  pub above : 1 < number
  pub below : number < k
  pub divides : c % number ≡ 0

search_divisor : (c k : ℕ) → Divisor c k ⊎ ((d : ℕ) → 1 < d → d < k → 0 < c % d)
search_divisor c zero = inr (λ d a b. absurd (omega arith))
search_divisor c (suc k) =
    elim (search_divisor c k) [
      | inl f ↦ inl (record { number = f.number; above = f.above; below = omega (arith, f.below); divides = f.divides })
      | inr none ↦
          elim (eq-zero-or-pos (k - 1)) [
            | inl e ↦ inr (λ d a b. absurd (omega (arith, e, a, b)))
            | inr big ↦
                elim (eq-zero-or-pos (c % k)) [
                  | inl e ↦ inl (record { number = k; above = omega (arith, big); below = omega arith; divides = e })
                  | inr p ↦ inr (λ d a b. elim (eq-zero-or-pos (k - d)) [
                    | inl s ↦ let same : k ≡ d = omega (arith, s, b) in rw (← same) p
                    | inr l ↦ none d a (omega (arith, l))
                  ])
                ]
          ]
    ]

pub record Factor (n c : ℕ) : Type 0 where
  pub number : ℕ
  pub prime : Prime number
  pub divides : n % number ≡ 0
  pub below : number ≤ c

-- what divides a divisor divides
divides_on : (n c d : ℕ) → 0 < c → n % c ≡ 0 → c % d ≡ 0 → n % d ≡ 0
divides_on n c d p e f =
    let whole : c * (n / c) ≡ n = omega (arith, div-add-mod n c, e) in
    let part : d * (c / d) ≡ c = omega (arith, div-add-mod c d, f) in
    let one : n ≡ 0 + d * (c / d * (n / c)) = sym whole ∙ (ap (λ z. z * (n / c)) (sym part) ∙ regroup d (c / d) (n / c)) in
    let two : Same d n 0 = same_trans (same_of d n _ one) (same_more d 0 (c / d * (n / c))) in
    two.is ∙ zero-mod d

divisor_is : (n q d : ℕ) → q * d ≡ n → n % q ≡ 0
divisor_is n q d e =
    let one : n ≡ 0 + q * d = omega (arith, e) in
    let two : Same q n 0 = same_trans (same_of q n _ one) (same_more q 0 d) in
    two.is ∙ zero-mod q

more_than_one : (n d q : ℕ) → d * q ≡ n → d < n → 1 < q
more_than_one n d zero e l = absurd (omega (arith, e, l))
more_than_one n d (suc zero) e l = absurd (omega (arith, e, l))
more_than_one n d (suc (suc q)) e l = omega arith

factor_of : (n f c : ℕ) → c ≤ f → 1 < c → n % c ≡ 0 → Factor n c
factor_of n zero c l h e = absurd (omega arith)
factor_of n (suc f) c l h e =
    elim (search_divisor c c) [
      | inl d ↦
          let r : Factor n d.number = factor_of n f d.number (omega (arith, d.below, l)) d.above (divides_on n c d.number (omega (arith, h)) e d.divides) in
          record { number = r.number; prime = r.prime; divides = r.divides; below = omega (arith, r.below, d.below) }
      | inr none ↦ record { number = c; prime = record { above = h; none = none }; divides = e; below = omega arith }
    ]

-- a prime divisor of n whose square is at most n
pub record Small (n : ℕ) : Type 0 where
  pub number : ℕ
  pub prime : Prime number
  pub divides : n % number ≡ 0
  pub square : number * number ≤ n

pub small_of : (n d : ℕ) → 1 < d → d < n → n % d ≡ 0 → Small n
small_of n d h l e =
    let q : ℕ = n / d in
    let whole : d * q ≡ n = omega (arith, div-add-mod n d, e) in
    elim (eq-zero-or-pos (d - q)) [
      | inl le ↦
          let r : Factor n d = factor_of n d d (omega arith) h e in
          let a : d ≤ q = omega (arith, le) in
          let b : r.number * r.number ≤ d * q = mul-le-mul r.below (omega (arith, r.below, a)) in
          record { number = r.number; prime = r.prime; divides = r.divides; square = omega (arith, b, whole) }
      | inr gt ↦
          let more : 1 < q = more_than_one n d q whole l in
          let f : n % q ≡ 0 = divisor_is n q d (omega (arith, whole)) in
          let r : Factor n q = factor_of n q q (omega arith) more f in
          let b : r.number * r.number ≤ d * q = mul-le-mul (omega (arith, r.below, gt)) r.below in
          record { number = r.number; prime = r.prime; divides = r.divides; square = omega (arith, b, whole) }
    ]

-- ---- the test

-- what is the same modulo n is so modulo a divisor
same_below : {n a b : ℕ} (r e : ℕ) → n ≡ r * e → Same n a b → Same r a b
same_below {n = n} {a = a} {b = b} r e f h =
    let down : (x : ℕ) → Same r x (x % n) =
    λ x. same_trans (same_of r x (x % n + r * (e * (x / n))) (sym (mod-add-div x n) ∙ (ap (λ z. x % n + z * (x / n)) f ∙ omega arith)))
    (same_more r (x % n) (e * (x / n))) in
    same_trans (down a) (same_trans (same_of r _ _ h.is) (same_sym (down b)))

-- 1 and 0 differ modulo a prime
one_not-zero : (r : ℕ) → 1 < r → Same r 1 0 → ⊥
one_not-zero r h s =
    let one : 1 ≡ 0 = sym (mod-eq_of_lt h) ∙ (s.is ∙ zero-mod r) in
    omega (arith, one)

turn : (a b : ℕ) → a * b ≡ b * a
turn a b = omega arith

regroup_left : (f q k : ℕ) → f * (q * k) ≡ 0 + (f * q) * k
regroup_left f q k = omega arith

pub first_power : (g : ℕ) → g ^ 1 ≡ g
first_power g = pow-suc g 0 ∙ omega (arith, ap (λ z. z * g) (pow-zero g))

-- a number of whose powers one is 1 is not 0
base_positive : (r a k : ℕ) → 1 < r → 0 < k → Same r (a ^ k) 1 → 0 < a % r
base_positive r a zero h p s = absurd (omega arith)
base_positive r a (suc k) h p s =
    elim (eq-zero-or-pos (a % r)) [
      | inl e ↦
          let none : Same r a 0 = record { is = e ∙ sym (zero-mod r) } in
          let power : Same r (a ^ suc k) 0 =
          same_trans (same_of r _ _ (pow-suc a k)) (same_trans (same_mul (same_refl r (a ^ k)) none) (same_of r (a ^ k * 0) 0 (omega arith))) in
          absurd (one_not-zero r h (same_trans (same_sym s) power))
      | inr g ↦ g
    ]

pub root_below : (r q n : ℕ) → r * r ≤ n → n < q * q → r ≤ q
root_below r q n l h =
    elim (eq-zero-or-pos (r - q)) [
      | inl e ↦ omega (arith, e)
      | inr g ↦
          let le : q ≤ r = omega (arith, g) in
          let b : q * q ≤ r * r = mul-le-mul le le in
          absurd (omega (arith, b, l, h))
    ]

pub record Witness (n q m a b : ℕ) : Type 0 where
  pub parts : n ≡ q * m + 1
  pub above : 1 < n
  pub whole : Same n (a ^ (q * m)) 1
  pub apart : Same n ((a ^ m + (n - 1)) * b) 1

-- s is below a prime divisor of n by one, and not divided by q
not_apart : (n q m a b : ℕ) → Prime q → Witness n q m a b → (s : ℕ) → Prime (suc s) → n % suc s ≡ 0 → 0 < s % q → ⊥
not_apart n q m a b pq w s pr e positive =
    let r : ℕ = suc s in
    let k : ℕ = n / r in
    let f : n ≡ r * k = omega (arith, div-add-mod n r, e) in
    let whole : Same r (a ^ (q * m)) 1 = same_below r k f w.whole in
    let g : ℕ = a ^ m in
    let gq : Same r (g ^ q) 1 =
    same_trans (same_of r (g ^ q) (a ^ (q * m)) (sym (pow_mul a m q) ∙ ap (λ z. a ^ z) (turn m q))) whole in
    let some : 0 < a % r = base_positive r a (q * m) pr.above (omega (arith, w.parts, w.above)) whole in
    let little_ : Same r (a ^ s) 1 =
    same_trans (same_pow s (same_sym (same_mod r a))) (fermat s (a % r) pr some (mod-lt a (omega arith))) in
    let gs : Same r (g ^ s) 1 =
    same_trans (same_of r (g ^ s) ((a ^ s) ^ m) (sym (pow_mul a m s) ∙ (ap (λ z. a ^ z) (turn m s) ∙ pow_mul a s m)))
    (same_trans (same_pow m little_) (same_of r _ _ (one_pow m))) in
    let i : Inverse q (s % q) = inverse_of q (s % q) pq positive (mod-lt s (omega (arith, pq.above))) in
    let u : ℕ = i.number in
    let v : ℕ = (s * u) / q in
    let near : Same q (s * u) 1 = same_trans (same_mul (same_sym (same_mod q s)) (same_refl q u)) i.is in
    let left : s * u % q ≡ 1 = near.is ∙ mod-eq_of_lt pq.above in
    let bezout : s * u ≡ q * v + 1 = omega (arith, div-add-mod (s * u) q, left) in
    let one : Same r (g ^ (s * u)) 1 =
    same_trans (same_of r _ _ (pow_mul g s u)) (same_trans (same_pow u gs) (same_of r _ _ (one_pow u))) in
    let two : Same r (g ^ (q * v + 1)) g =
    same_trans (same_of r _ _ (pow-add g (q * v) 1))
    (same_trans (same_mul (same_trans (same_of r _ _ (pow_mul g q v)) (same_trans (same_pow v gq) (same_of r _ _ (one_pow v)))) (same_of r _ _ (first_power g)))
    (same_of r (1 * g) g (omega arith))) in
    let gone : Same r g 1 = same_trans (same_sym two) (same_trans (same_of r _ _ (ap (λ z. g ^ z) (sym bezout))) one) in
    let apart : Same r ((g + (n - 1)) * b) 1 = same_below r k f w.apart in
    let sum : 1 + (n - 1) ≡ r * k = omega (arith, w.above, f) in
    let none : Same r ((g + (n - 1)) * b) 0 =
    same_trans (same_mul (same_add gone (same_refl r (n - 1))) (same_refl r b))
    (same_trans (same_of r ((1 + (n - 1)) * b) (0 + r * (k * b)) (ap (λ z. z * b) sum ∙ regroup r k b)) (same_more r 0 (k * b))) in
    one_not-zero r pr.above (same_trans (same_sym apart) none)

-- f divides what is below each prime divisor of n by one
pub record Below (n f : ℕ) : Type 0 where
  pub law : (s : ℕ) → Prime (suc s) → n % suc s ≡ 0 → s % f ≡ 0

pub below_one : (n q m a b : ℕ) → Prime q → Witness n q m a b → Below n q
below_one n q m a b pq w = record {
  law = λ s pr e. elim (eq-zero-or-pos (s % q)) [
    | inl z ↦ z
    | inr p ↦ absurd (not_apart n q m a b pq w s pr e p)
  ];
}

both_divide : (f q s : ℕ) → Prime q → 0 < f % q → s % f ≡ 0 → s % q ≡ 0 → s % (f * q) ≡ 0
both_divide f q s pq h a b =
    let i : Inverse q (f % q) = inverse_of q (f % q) pq h (mod-lt f (omega (arith, pq.above))) in
    let k : ℕ = s / f in
    let one : f * k ≡ s = omega (arith, div-add-mod s f, a) in
    let two : Same q ((f % q) * k) ((f % q) * 0) =
    same_trans (same_mul (same_mod q f) (same_refl q k))
    (same_trans (same_of q _ _ one) (same_trans (record { is = b ∙ sym (zero-mod q) }) (same_of q 0 ((f % q) * 0) (omega arith)))) in
    let three : Same q k 0 = same_undo (f % q) i two in
    let four : k % q ≡ 0 = three.is ∙ zero-mod q in
    let five : q * (k / q) ≡ k = omega (arith, div-add-mod k q, four) in
    let six : s ≡ 0 + (f * q) * (k / q) = sym one ∙ (ap (λ z. f * z) (sym five) ∙ regroup_left f q (k / q)) in
    let seven : Same (f * q) s 0 = same_trans (same_of (f * q) _ _ six) (same_more (f * q) 0 (k / q)) in
    seven.is ∙ zero-mod (f * q)

pub below_both : (n f q : ℕ) → Prime q → 0 < f % q → Below n f → Below n q → Below n (f * q)
below_both n f q pq h a b = record { law = λ s pr e. both_divide f q s pq h (a.law s pr e) (b.law s pr e) }

no_small : (n f r : ℕ) → n < f * f → Below n f → Prime r → n % r ≡ 0 → r * r ≤ n → ⊥
no_small n f zero h b pr e l = absurd (omega (arith, pr.above))
no_small n f (suc s) h b pr e l =
    let small : suc s ≤ f = root_below (suc s) f n l h in
    let none : s ≡ 0 = sym (mod-eq_of_lt small) ∙ b.law s pr e in
    omega (arith, pr.above, none)

pub pocklington : (n f : ℕ) → 1 < n → n < f * f → Below n f → Prime n
pocklington n f above h b = record {
  above = above;
  none = λ d g l. elim (eq-zero-or-pos (n % d)) [
    | inl e ↦
        let s : Small n = small_of n d g l e in
        absurd (no_small n f s.number h b s.prime s.divides s.square)
    | inr p ↦ p
  ];
}
