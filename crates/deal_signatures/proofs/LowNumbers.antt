-- Numbers by their halves, and how large they are.
use Rattle.std.proofs.Common.{◌≡◌, ℕ, ◌+◌, ◌-◌, ◌*◌, ◌^◌, ◌≤◌, ◌<◌, List, [], ◌∷◌, ◌++◌, length, Bool, true, false}
use Rattle.std.proofs.Common.{refl, sym, ap, subst, ◌∙◌, arith, suc, inl, inr, ◌⊎◌, take, drop}
use Rattle.std.proofs.Math.Nat.{pow-succ', pow-le-pow_right}
use Rattle.std.proofs.lemmas.List.{take-append-drop, length-drop}
use Rattle.std.specs.Prelude.{◌&&◌, ◌||◌, ◌==◌, not, nat_le, nat_lt}
use Rattle.std.proofs.lemmas.Bool.{and_parts}
use Rattle.spec_deal.specs.Shape.{half_order, number_from, is_natural, is_number, is_low}
use Rattle.deal_signatures.specs.Halves.{half_high, half_low, is_low_of}

pub number_append : (n : ℕ) (xs ys : List ℕ) → number_from n (xs ++ ys) ≡ number_from (number_from n xs) ys
number_append n [] ys = refl
number_append n (x ∷ xs) ys = number_append (n * 256 + x) xs ys

-- without a number in front
alone : (b : ℕ) (bs : List ℕ) → number_from 0 (b ∷ bs) ≡ number_from b bs
alone b bs = let e : 0 * 256 + b ≡ b = omega arith in ap (λ x. number_from x bs) e

flat : (n b p r : ℕ) → (n * 256 + b) * p + r ≡ n * (256 * p) + (b * p + r)
flat n b p r = omega arith

pub number_split : (n : ℕ) (bs : List ℕ) → number_from n bs ≡ n * 256 ^ length bs + number_from 0 bs
number_split n [] = omega arith
number_split n (b ∷ bs) =
    number_split (n * 256 + b) bs ∙ flat n b (256 ^ length bs) (number_from 0 bs)
    ∙ (λ j. n * sym (pow-succ' 256 (length bs)) j + sym (number_split b bs) j)
    ∙ ap (λ m. n * 256 ^ suc (length bs) + m) (sym (alone b bs))

-- one byte more behind a number that fits
pub one_more : (n i k : ℕ) → n < 256 ^ i → i < k → k ≤ 16 → n * 256 + 255 < 2 ^ 128
one_more n i k below less most =
    let bound : i ≤ 15 = omega (arith, less, most) in
    let power : 256 ^ i ≤ 256 ^ 15 = pow-le-pow_right {n = 256} (omega arith) bound in
    omega (arith, below, power)

-- ---- halves

pub low_by_halves : (high low : ℕ) → low < 2 ^ 128 → nat_le (high * 2 ^ 128 + low) half_order ≡ is_low_of high low
low_by_halves high low small = by (nat_le (high * 2 ^ 128 + low) half_order) refl (is_low_of high low) refl
  where
    by : (a : Bool) → nat_le (high * 2 ^ 128 + low) half_order ≡ a → (b : Bool) → is_low_of high low ≡ b → a ≡ b
    by true e true f = refl
    by false e false f = refl
    by true e false f = absurd (grind (arith, e, f, small))
    by false e true f = absurd (grind (arith, e, f, small))

pub joined : (high low : List ℕ) → (length low ≡ 16) ⊎ (high ≡ [])
    → number_from 0 (high ++ low) ≡ number_from 0 high * 2 ^ 128 + number_from 0 low
joined high low (inl e) =
    number_append 0 high low ∙ number_split (number_from 0 high) low
    ∙ ap (λ k. number_from 0 high * 256 ^ k + number_from 0 low) e
joined high low (inr e) =
    let bare : number_from 0 low ≡ 0 * 2 ^ 128 + number_from 0 low = omega arith in
    subst (λ xs. number_from 0 (xs ++ low) ≡ number_from 0 xs * 2 ^ 128 + number_from 0 low) (sym e) bare

pub low_joined : (high low : List ℕ) → (length low ≡ 16) ⊎ (high ≡ []) → number_from 0 low < 2 ^ 128
    → is_low (high ++ low) ≡ is_low_of (number_from 0 high) (number_from 0 low)
low_joined high low either small =
    ap (λ n. nat_le n half_order) (joined high low either) ∙ low_by_halves (number_from 0 high) (number_from 0 low) small

-- cut before the last 16 bytes
pub low_cut : (bs prefix back : List ℕ) (k : ℕ) → prefix ≡ take k bs → back ≡ drop k bs → k ≡ length bs - 16
    → number_from 0 back < 2 ^ 128 → is_low_of (number_from 0 prefix) (number_from 0 back) ≡ is_low bs
low_cut bs prefix back k first rest here small =
    sym (low_joined prefix back either small) ∙ ap is_low ((λ j. first j ++ rest j) ∙ take-append-drop k bs)
  where
    either : (length back ≡ 16) ⊎ (prefix ≡ [])
    either = by (nat_le 16 (length bs)) refl
      where
        by : (t : Bool) → nat_le 16 (length bs) ≡ t → (length back ≡ 16) ⊎ (prefix ≡ [])
        by true e = inl (ap length rest ∙ length-drop k bs ∙ sixteen e)
          where
            sixteen : nat_le 16 (length bs) ≡ true → length bs - k ≡ 16
            sixteen e = grind (arith, e, here)
        by false e = inr (first ∙ ap (λ n. take n bs) (none e))
          where
            none : nat_le 16 (length bs) ≡ false → k ≡ 0
            none e = grind (arith, e, here)

-- ---- 33 bytes

pub long_is_high : (bs : List ℕ) → is_number bs ≡ true → length bs ≡ 33 → is_low bs ≡ false
long_is_high [] h e = cc
long_is_high (b ∷ []) h e = absurd (omega (arith, e))
long_is_high (b ∷ (c ∷ bs)) h e =
    let natural : is_natural (b ∷ (c ∷ bs)) ≡ true = (and_parts (is_natural (b ∷ (c ∷ bs))) (nat_le (length (b ∷ (c ∷ bs))) 33) h).0 in
    let rest : length bs ≡ 31 = omega (arith, e) in
    let spread : number_from 0 (b ∷ (c ∷ bs)) ≡ (b * 256 + c) * 256 ^ 31 + number_from 0 bs =
    (let e : (0 * 256 + b) * 256 + c ≡ b * 256 + c = omega arith in ap (λ x. number_from x bs) e)
    ∙ number_split (b * 256 + c) bs ∙ ap (λ k. (b * 256 + c) * 256 ^ k + number_from 0 bs) rest in
    by (nat_le (number_from 0 (b ∷ (c ∷ bs))) half_order) refl (top natural) spread
  where
    top : is_natural (b ∷ (c ∷ bs)) ≡ true → 128 ≤ b * 256 + c
    top natural = grind (arith, natural)

    by : (t : Bool) → nat_le (number_from 0 (b ∷ (c ∷ bs))) half_order ≡ t → 128 ≤ b * 256 + c
        → number_from 0 (b ∷ (c ∷ bs)) ≡ (b * 256 + c) * 256 ^ 31 + number_from 0 bs → t ≡ false
    by false f large spread = refl
    by true f large spread = absurd (too_large (b * 256 + c) (number_from 0 bs) (number_from 0 (b ∷ (c ∷ bs))) large spread f)
      where
        too_large : (x y n : ℕ) → 128 ≤ x → n ≡ x * 256 ^ 31 + y → nat_le n half_order ≡ true → ⊥
        too_large x y n large spread f = grind (arith, large, spread, f)

pub no_low : (a b : Bool) → b ≡ false → false ≡ (a && b)
no_low true true e = cc
no_low true false e = refl
no_low false b e = refl
