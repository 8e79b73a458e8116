-- The shape of signatures: what the counts delimit is the only R and S that a signature can spell.
use Rattle.std.proofs.Common.{◌≡◌, ℕ, suc, ◌+◌, ◌≤◌, List, [], ◌∷◌, ◌++◌, length, true, refl, sym, ap, ◌∙◌, arith, length-append}
use Rattle.std.specs.Prelude.{take, drop, nat_le, slice_index, ◌&&◌}
use Rattle.std.specs.Str.{bytes_eq}
use Rattle.std.proofs.lemmas.Slice.Eq.{bytes_eq-Decides}
use Rattle.std.proofs.lemmas.Bool.{and_parts, and_from}
use Rattle.spec_deal.specs.Shape.{is_natural, is_number, is_low, shaped, HasShape, r_of, s_of, is_strict}
use Rattle.theory_calculus.proofs.Names.{bytes-true}
use Rattle.theory_deal.specs.Shapes.{ShapeExactly, ShapeIsShort}

few_bytes : (xs : List ℕ) → is_number xs ≡ true → length xs ≤ 33
few_bytes xs h = let p = (and_parts (is_natural xs) (nat_le (length xs) 33) h).1 in grind (arith, p)

shaped_length : (r s : List ℕ) → length (shaped r s) ≡ length r + length s + 7
shaped_length r s =
    let a : length (r ++ 2 ∷ length s ∷ (s ++ 1 ∷ [])) ≡ length r + length (2 ∷ length s ∷ (s ++ 1 ∷ [])) =
    length-append r (2 ∷ length s ∷ (s ++ 1 ∷ [])) in
    let b : length (s ++ 1 ∷ []) ≡ length s + 1 = length-append s (1 ∷ []) in
    omega (arith, a, b)

pub shape_is_short : ShapeIsShort
shape_is_short signature h =
    let n = ap (length {A = ℕ}) h.same ∙ shaped_length h.r h.s in
    let a = few_bytes h.r h.is_r in
    let b = few_bytes h.s h.is_s in
    omega (arith, n, a, b)

pub strict_has_shape : (signature : List ℕ) → is_strict signature ≡ true → HasShape signature
strict_has_shape signature h =
    let r = r_of signature in
    let s = s_of signature in
    let p = and_parts (bytes_eq signature (shaped r s)) (is_number r && (is_number s && is_low s)) h in
    let q = and_parts (is_number r) (is_number s && is_low s) p.1 in
    let t = and_parts (is_number s) (is_low s) q.1 in
    record { r = r; s = s; same = bytes-true signature (shaped r s) p.0; is_r = q.0; is_s = t.0; low = t.1 }

-- ---- the converse

prefix : (xs ys : List ℕ) → take (length xs) (xs ++ ys) ≡ xs
prefix [] ys = refl
prefix (x ∷ xs) ys = ap (λ (zs : List ℕ). x ∷ zs) (prefix xs ys)

behind_all : (xs ys : List ℕ) (n : ℕ) → drop (length xs + n) (xs ++ ys) ≡ drop n ys
behind_all [] ys n = let z : 0 + n ≡ n = omega arith in ap (λ (k : ℕ). drop k ys) z
behind_all (x ∷ xs) ys n =
    let z : suc (length xs) + n ≡ suc (length xs + n) = omega arith in
    ap (λ (k : ℕ). drop k (x ∷ (xs ++ ys))) z ∙ behind_all xs ys n

r_is : (r s : List ℕ) → r_of (shaped r s) ≡ r
r_is r s = prefix r (2 ∷ length s ∷ (s ++ 1 ∷ []))

s_is : (r s : List ℕ) → s_of (shaped r s) ≡ s
s_is r s =
    let head : List ℕ = 0x30 ∷ (length r + length s + 4) ∷ 2 ∷ length r ∷ r in
    let tail : List ℕ = 2 ∷ length s ∷ (s ++ 1 ∷ []) in
    let five : length r + 5 ≡ length head + 1 = omega arith in
    let six : length r + 6 ≡ length head + 2 = omega arith in
    let count : slice_index (drop (length (r_of (shaped r s)) + 5) (shaped r s)) 0 ≡ length s =
    ap (λ (q : List ℕ). slice_index (drop (length q + 5) (shaped r s)) 0) (r_is r s)
    ∙ ap (λ (k : ℕ). slice_index (drop k (shaped r s)) 0) five
    ∙ ap (λ (q : List ℕ). slice_index q 0) (behind_all head tail 1) in
    let rest : drop (length (r_of (shaped r s)) + 6) (shaped r s) ≡ s ++ 1 ∷ [] =
    ap (λ (q : List ℕ). drop (length q + 6) (shaped r s)) (r_is r s)
    ∙ ap (λ (k : ℕ). drop k (shaped r s)) six
    ∙ behind_all head tail 2 in
    ap (λ (k : ℕ). take k (drop (length (r_of (shaped r s)) + 6) (shaped r s))) count
    ∙ ap (take (length s)) rest
    ∙ prefix s (1 ∷ [])

strict_shaped : (r s : List ℕ) → is_number r ≡ true → is_number s ≡ true → is_low s ≡ true → is_strict (shaped r s) ≡ true
strict_shaped r s a b c =
    let same : shaped r s ≡ shaped (r_of (shaped r s)) (s_of (shaped r s)) =
    ap (λ (q : List ℕ). shaped q s) (sym (r_is r s)) ∙ ap (shaped (r_of (shaped r s))) (sym (s_is r s)) in
    and_from _ _ ((bytes_eq-Decides (shaped r s) (shaped (r_of (shaped r s)) (s_of (shaped r s)))).1 same)
    (and_from _ _ (ap is_number (r_is r s) ∙ a)
    (and_from _ _ (ap is_number (s_is r s) ∙ b) (ap is_low (s_is r s) ∙ c)))

pub shape_exactly : ShapeExactly
shape_exactly signature =
    (strict_has_shape signature, λ h. ap is_strict h.same ∙ strict_shaped h.r h.s h.is_r h.is_s h.low)
