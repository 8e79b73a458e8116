-- A count before parts of one length is told from the bytes, even where it is too large for its form.
use Rattle.std.proofs.Common.{◌≡◌, ℕ, suc, ◌+◌, ◌*◌, ◌<◌, ◌≤◌, ◌^◌, List, [], ◌∷◌, ◌++◌, length, Result, Ok, Err, refl, sym, ap, ◌∙◌, arith, lit<}
use Rattle.std.specs.Prelude.{◌/◌}
use Rattle.std.specs.Int.{Width, w16, w32, w64, to_le_bytes, from_le_bytes}
use Rattle.spec_bitcoin.specs.Spelling.{compact}
use Rattle.spec_bitcoin.specs.Reading.{any, compact_at}
use Rattle.theory_bitcoin.proofs.Formats.{IsWide, wide16, wide32, wide64, Form, single, two, four, eight, form_of, count}
use Rattle.theory_bitcoin.proofs.Apart.{cut}

-- what the lowest eight bytes leave of a number
eight_left : (n : ℕ) → from_le_bytes w64 (to_le_bytes w64 n) + 2 ^ 64 * (n / 2 ^ 64) ≡ n
eight_left n = omega arith

-- a number in the width of its form
width_apart : (w : Width) (limit : ℕ) → IsWide w limit → (b n m : ℕ) (c d x y : List ℕ) → c ≡ b ∷ to_le_bytes w n → d ≡ b ∷ to_le_bytes w m
    → c ++ x ≡ d ++ y → (to_le_bytes w n ≡ to_le_bytes w m) × (length x ≡ length y)
width_apart w limit wide b n m c d x y e f h =
    let l : length c ≡ length d = ap length e ∙ ap suc (wide.len n ∙ sym (wide.len m)) ∙ sym (ap length f) in
    let r = cut c d x y l h in
    let s : b ∷ to_le_bytes w n ≡ b ∷ to_le_bytes w m = sym e ∙ r.0 ∙ f in
    (cc, ap length r.1)

heads : (a b : ℕ) (c d s t x y : List ℕ) → c ≡ a ∷ s → d ≡ b ∷ t → c ++ x ≡ d ++ y → a ≡ b
heads a b c d s t x y e f h =
    let u : a ∷ (s ++ x) ≡ b ∷ (t ++ y) = ap (λ z. z ++ x) (sym e) ∙ h ∙ ap (λ z. z ++ y) f in
    cc

-- the counts before such parts are equal
pub count-apart : (n m p q : ℕ) (x y : List ℕ) → compact n ++ x ≡ compact m ++ y → length x ≡ 41 * n + p → length y ≡ 41 * m + q
    → p < 2 ^ 34 → q < 2 ^ 34 → n ≡ m
count-apart n m p q x y h lx ly sp sq = by_forms (form_of n) (form_of m)
  where
    by_forms : Form n → Form m → n ≡ m
    by_forms (single a e) (single b f) = heads n m (compact n) (compact m) [] [] x y e f h
    by_forms (single a e) (two b b2 f) = let z = heads n 253 (compact n) (compact m) [] _ x y e f h in absurd (omega (arith, a, z))
    by_forms (single a e) (four b b2 f) = let z = heads n 254 (compact n) (compact m) [] _ x y e f h in absurd (omega (arith, a, z))
    by_forms (single a e) (eight b f) = let z = heads n 255 (compact n) (compact m) [] _ x y e f h in absurd (omega (arith, a, z))
    by_forms (two a a2 e) (single b f) = let z = heads 253 m (compact n) (compact m) _ [] x y e f h in absurd (omega (arith, b, z))
    by_forms (two a a2 e) (two b b2 f) =
        let r = width_apart w16 (2 ^ 16) wide16 253 n m (compact n) (compact m) x y e f h in
        sym (wide16.again n a2) ∙ ap (from_le_bytes w16) r.0 ∙ wide16.again m b2
    by_forms (two a a2 e) (four b b2 f) = let z = heads 253 254 (compact n) (compact m) _ _ x y e f h in absurd (omega (arith, z))
    by_forms (two a a2 e) (eight b f) = let z = heads 253 255 (compact n) (compact m) _ _ x y e f h in absurd (omega (arith, z))
    by_forms (four a a2 e) (single b f) = let z = heads 254 m (compact n) (compact m) _ [] x y e f h in absurd (omega (arith, b, z))
    by_forms (four a a2 e) (two b b2 f) = let z = heads 254 253 (compact n) (compact m) _ _ x y e f h in absurd (omega (arith, z))
    by_forms (four a a2 e) (four b b2 f) =
        let r = width_apart w32 (2 ^ 32) wide32 254 n m (compact n) (compact m) x y e f h in
        sym (wide32.again n a2) ∙ ap (from_le_bytes w32) r.0 ∙ wide32.again m b2
    by_forms (four a a2 e) (eight b f) = let z = heads 254 255 (compact n) (compact m) _ _ x y e f h in absurd (omega (arith, z))
    by_forms (eight a e) (single b f) = let z = heads 255 m (compact n) (compact m) _ [] x y e f h in absurd (omega (arith, b, z))
    by_forms (eight a e) (two b b2 f) = let z = heads 255 253 (compact n) (compact m) _ _ x y e f h in absurd (omega (arith, z))
    by_forms (eight a e) (four b b2 f) = let z = heads 255 254 (compact n) (compact m) _ _ x y e f h in absurd (omega (arith, z))
    by_forms (eight a e) (eight b f) =
        let r = width_apart w64 (2 ^ 64) wide64 255 n m (compact n) (compact m) x y e f h in
        let u = eight_left n in
        let v = eight_left m in
        let t = ap (from_le_bytes w64) r.0 in
        one_rest (from_le_bytes w64 (to_le_bytes w64 n)) (from_le_bytes w64 (to_le_bytes w64 m)) (n / 2 ^ 64) (m / 2 ^ 64) (length x)
        (length y) t u v r.1 refl refl
      where
        one_rest : (a b i j k l : ℕ) → a ≡ b → a + 2 ^ 64 * i ≡ n → b + 2 ^ 64 * j ≡ m → k ≡ l → length x ≡ k → length y ≡ l → n ≡ m
        one_rest a b i j k l e f g o lk ll = omega (arith, e, f, g, o, lk, ll, lx, ly, sp, sq)

-- a count that isn't zero doesn't begin with one
pub some_count : (n : ℕ) (x y : List ℕ) → 0 < n → 0 ∷ x ≡ compact n ++ y → ⊥
some_count n x y some h = by_form (form_of n)
  where
    by_form : Form n → ⊥
    by_form (single a e) = let z = heads 0 n (0 ∷ []) (compact n) [] [] x y refl e h in omega (arith, some, z)
    by_form (two a b e) = let z = heads 0 253 (0 ∷ []) (compact n) [] _ x y refl e h in omega (arith, z)
    by_form (four a b e) = let z = heads 0 254 (0 ∷ []) (compact n) [] _ x y refl e h in omega (arith, z)
    by_form (eight a e) = let z = heads 0 255 (0 ∷ []) (compact n) [] _ x y refl e h in omega (arith, z)

-- a count has at most nine bytes
pub count_size : (n : ℕ) → length (compact n) ≤ 9
count_size n = by_form (form_of n)
  where
    by_form : Form n → length (compact n) ≤ 9
    by_form (single a e) = let l = ap length e in omega (arith, l)
    by_form (two a b e) = let l = ap length e in let m = wide16.len n in omega (arith, l, m)
    by_form (four a b e) = let l = ap length e in let m = wide32.len n in omega (arith, l, m)
    by_form (eight a e) = let l = ap length e in let m = wide64.len n in omega (arith, l, m)

-- counts that fit are told apart
pub counts_apart : (n m : ℕ) (x y : List ℕ) → n < 2 ^ 32 → m < 2 ^ 32 → compact n ++ x ≡ compact m ++ y → x ≡ y
counts_apart n m x y a b h =
    let u = (count any 0 refl (lit< tt)).again (compact n) x n (record { bytes = refl; most = omega (arith, a); head = λ c rest e. refl }) in
    let v = (count any 0 refl (lit< tt)).again (compact m) y m (record { bytes = refl; most = omega (arith, b); head = λ c rest e. refl }) in
    let z : (let r : Result (ℕ × List ℕ) ℕ = Ok (n, x) in r) ≡ Ok (m, y) = sym u ∙ ap (compact_at any) h ∙ v in
    ap rest_of z
  where
    rest_of : Result (ℕ × List ℕ) ℕ → List ℕ
    rest_of (Ok p) = p.1
    rest_of (Err k) = []
