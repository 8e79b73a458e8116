-- A number's item is the only shortest one.
use Rattle.std.proofs.Common.{◌≡◌, ℕ, zero, suc, ◌+◌, ◌*◌, ◌/◌, ◌%◌, ◌<◌, ◌≤◌, List, [], ◌∷◌, length, Bool, true, false, not, ◌-◌, Some}
use Rattle.std.proofs.Common.{None, refl, ap, subst, arith}
use Rattle.std.specs.Prelude.{if◌then◌else◌, nat_lt, nat_le, ◌==◌, ◌||◌, ℤ, pos, negsuc, ◌-ℤ◌}
use Rattle.std.proofs.Math.Nat.{div-add-mod}
use Rattle.std.proofs.lemmas.Int.{ints}
use Rattle.spec_bitcoin.specs.Numbers.{signed, signed_bytes, item_of_number, number_of_item, magnitude, is_negative}
use Rattle.spec_bitcoin.specs.Spelling.{IsBytes}
use Rattle.theory_script.specs.Items.{size_of_number, ends_shortest, is_shortest, IsReadBack, IsItemOf}
use Rattle.theory_script.proofs.NumberLemmas.{room, Spells, spells, number_again}

-- ---- the item of a number is a shortest one

or_true : (b : Bool) → (b || true) ≡ true
or_true true = refl
or_true false = refl

last_shortest : (n before : ℕ) (negative : Bool) → n < 128 → (n ≡ 0 → 128 ≤ before)
    → (not ((n + (if negative then 128 else 0)) % 128 == 0) || nat_le 128 before) ≡ true
last_shortest n before negative lt h = by_zero (n == 0) refl
  where
    by_zero : (b : Bool) → (n == 0) ≡ b → (not ((n + (if negative then 128 else 0)) % 128 == 0) || nat_le 128 before) ≡ true
    by_zero true e =
        let z : n ≡ 0 = grind arith in
        let le = h z in
        let t : nat_le 128 before ≡ true = grind arith in
        rw t (or_true _)
    by_zero false e = elim negative as (λ s. (not ((n + (if s then 128 else 0)) % 128 == 0) || nat_le 128 before) ≡ true) [
      | true ↦ let t : ((n + 128) % 128 == 0) ≡ false = grind arith in rw t refl
      | false ↦ let t : ((n + 0) % 128 == 0) ≡ false = grind arith in rw t refl
    ]

shortest_bytes : (j k n before : ℕ) (negative : Bool) → j < k → n < room j → (n ≡ 0 → 128 ≤ before)
    → ends_shortest before (signed_bytes k n negative) ≡ true
unfolding signed_bytes
shortest_bytes zero zero n before negative lt r h = absurd (omega arith)
shortest_bytes (suc j) zero n before negative lt r h = absurd (omega arith)
shortest_bytes zero (suc k) n before negative lt r h =
    let t : nat_lt n 128 ≡ true = grind arith in
    rw t (last_shortest n before negative r h)
shortest_bytes (suc j) (suc k) n before negative lt r h =
    by_size (nat_lt n 128) refl (spells j k (n / 256) negative (omega arith) (omega (arith, div-add-mod n 256)))
    (λ m. shortest_bytes j k (n / 256) (n % 256) negative (omega arith) (omega (arith, div-add-mod n 256)) m)
  where
    by_size : (b : Bool) → nat_lt n 128 ≡ b → Spells (signed_bytes k (n / 256) negative) (n / 256) negative (j + 1)
        → ((n / 256 ≡ 0 → 128 ≤ n % 256) → ends_shortest (n % 256) (signed_bytes k (n / 256) negative) ≡ true)
        → ends_shortest before
        (if b then (n + (if negative then 128 else 0)) ∷ [] else (n % 256) ∷ signed_bytes k (n / 256) negative)
        ≡ true
    by_size true t s ih = last_shortest n before negative (grind arith) h
    by_size false t s ih =
        let ge : 128 ≤ n = grind arith in
        rw (s.some) (ih (λ z. omega (arith, div-add-mod n 256, z, ge)))

pub read_back : (z : ℤ) → size_of_number z ≤ 2147483647 → IsReadBack z
unfolding item_of_number
read_back z le = record { again = number_again z le; shortest = by_sign z le }
  where
    by_zero : (n : ℕ) (b : Bool) → (n == 0) ≡ b → n ≤ 2147483647 → is_shortest (if b then [] else signed_bytes 9 n false) ≡ true
    by_zero n true e h = refl
    by_zero n false e h = shortest_bytes 3 9 n 0 false (omega arith) (omega arith) (λ z. absurd (grind arith))

    by_sign : (z : ℤ) → size_of_number z ≤ 2147483647 → is_shortest (item_of_number z) ≡ true
    by_sign (pos n) h = by_zero n (n == 0) refl h
    by_sign (negsuc n) h = shortest_bytes 3 9 (n + 1) 0 true (omega arith) (omega arith) (λ z. absurd (omega arith))

-- ---- no item of the number is shorter

few_bytes : (k : ℕ) (item : List ℕ) (negative : Bool) → IsBytes item → (length item == 0) ≡ false
    → length (signed_bytes k (magnitude item) negative) ≤ length item
unfolding signed_bytes
few_bytes k [] negative h e = cc
few_bytes zero (b ∷ rest) negative h e = omega arith
few_bytes (suc k) (b ∷ []) negative h e =
    let t : nat_lt (b % 128) 128 ≡ true = grind arith in
    rw t (omega arith)
few_bytes (suc k) (b ∷ (c ∷ rest)) negative h e =
    let some : (length (c ∷ rest) == 0) ≡ false = grind arith in
    rw some (by_size (nat_lt (b + 256 * magnitude (c ∷ rest)) 128) (few_bytes k (c ∷ rest) negative (λ i. h (suc i)) some))
  where
    by_size : (t : Bool) → length (signed_bytes k (magnitude (c ∷ rest)) negative) ≤ length (c ∷ rest)
        → length (
        if t then (b + 256 * magnitude (c ∷ rest) + (if negative then 128 else 0)) ∷ []
        else ((b + 256 * magnitude (c ∷ rest)) % 256) ∷ signed_bytes k ((b + 256 * magnitude (c ∷ rest)) / 256) negative
        )
        ≤ length (b ∷ (c ∷ rest))
    by_size true ih = omega arith
    by_size false ih =
        let lt : b < 256 = h 0 in
        let d = div-add-mod (b + 256 * magnitude (c ∷ rest)) 256 in
        let q : (b + 256 * magnitude (c ∷ rest)) / 256 ≡ magnitude (c ∷ rest) = omega (arith, d, lt) in
        rw q (omega (arith, ih))

-- ---- a shortest item is the number's own

zero_ends : (before : ℕ) (item : List ℕ) → magnitude item ≡ 0 → (length item == 0) ≡ false → ends_shortest before item ≡ true → 128 ≤ before
zero_ends before [] z e h = cc
zero_ends before (b ∷ []) z e h = by_test (nat_le 128 before) refl (rw z at h)
  where
    by_test : (t : Bool) → nat_le 128 before ≡ t → (not (0 == 0) || t) ≡ true → 128 ≤ before
    by_test true k l = grind arith
    by_test false k l = cc
zero_ends before (b ∷ (c ∷ rest)) z e h =
    let some : (length (c ∷ rest) == 0) ≡ false = grind arith in
    let z2 : b + 256 * magnitude (c ∷ rest) ≡ 0 = rw some at z in
    let h2 : ends_shortest b (c ∷ rest) ≡ true = rw some at h in
    let ih = zero_ends b (c ∷ rest) (omega (arith, z2)) some h2 in
    absurd (omega (arith, ih, z2))

last_same : (b : ℕ) → b < 256 → b % 128 + (if nat_le 128 b then 128 else 0) ≡ b
last_same b h = by_sign (nat_le 128 b) refl
  where
    by_sign : (t : Bool) → nat_le 128 b ≡ t → b % 128 + (if t then 128 else 0) ≡ b
    by_sign true e = grind arith
    by_sign false e = grind arith

same_bytes : (k before : ℕ) (item : List ℕ) → length item ≤ k → IsBytes item → (length item == 0) ≡ false → ends_shortest before item ≡ true
    → signed_bytes k (magnitude item) (is_negative item) ≡ item
unfolding signed_bytes
same_bytes k before [] le h e s = cc
same_bytes zero before (b ∷ rest) le h e s = absurd (omega (arith, le))
same_bytes (suc k) before (b ∷ []) le h e s =
    let t : nat_lt (b % 128) 128 ≡ true = grind arith in
    rw t (ap (λ x. x ∷ []) (last_same b (h 0)))
same_bytes (suc k) before (b ∷ (c ∷ rest)) le h e s =
    let some : (length (c ∷ rest) == 0) ≡ false = grind arith in
    let m = magnitude (c ∷ rest) in
    let s2 : ends_shortest b (c ∷ rest) ≡ true = rw some at s in
    let lt : b < 256 = h 0 in
    let many : 128 ≤ b + 256 * m = by_zero b m (m == 0) refl (λ z. zero_ends b (c ∷ rest) z some s2) in
    let t : nat_lt (b + 256 * m) 128 ≡ false = grind (arith, many) in
    let q : (b + 256 * m) / 256 ≡ m = omega (arith, div-add-mod (b + 256 * m) 256, lt) in
    let r : (b + 256 * m) % 256 ≡ b = omega (arith, div-add-mod (b + 256 * m) 256, lt) in
    let ih = same_bytes k b (c ∷ rest) (omega (arith, le)) (λ i. h (suc i)) some s2 in
    rw (some, t, q, r) (ap (λ xs. b ∷ xs) ih)
  where
    by_zero : (x n : ℕ) (t : Bool) → (n == 0) ≡ t → (n ≡ 0 → 128 ≤ x) → 128 ≤ x + 256 * n
    by_zero x n true k f = let z : n ≡ 0 = grind arith in omega (arith, f z)
    by_zero x n false k f = let z : 1 ≤ n = grind arith in omega (arith, z)

-- ---- both

negated : (m : ℕ) → 1 ≤ m → pos 0 -ℤ pos m ≡ negsuc (m - 1)
negated m h = omega (arith, ints, h)

item_least : (negative : Bool) (item : List ℕ) → IsBytes item → (length item == 0) ≡ false
    → length (item_of_number (signed negative (magnitude item))) ≤ length item
unfolding item_of_number
item_least false item h e = by_zero (magnitude item == 0)
  where
    by_zero : (t : Bool) → length (if t then [] else signed_bytes 9 (magnitude item) false) ≤ length item
    by_zero true = omega arith
    by_zero false = few_bytes 9 item false h e
item_least true item h e = by_zero (magnitude item == 0) refl
  where
    by_zero : (t : Bool) → (magnitude item == 0) ≡ t → length (item_of_number (pos 0 -ℤ pos (magnitude item))) ≤ length item
    by_zero true z =
        let n : magnitude item ≡ 0 = grind (arith, z) in
        rw n (omega arith)
    by_zero false z =
        let n : 1 ≤ magnitude item = grind (arith, z) in
        let r : magnitude item - 1 + 1 ≡ magnitude item = omega (arith, n) in
        rw (negated (magnitude item) n, r) (few_bytes 9 item true h e)

item_same : (negative : Bool) (item : List ℕ) → is_negative item ≡ negative → IsBytes item → (length item == 0) ≡ false → length item ≤ 4
    → is_shortest item ≡ true → item_of_number (signed negative (magnitude item)) ≡ item
unfolding item_of_number
item_same negative item sign h e le s = by_zero (magnitude item == 0) refl
  where
    own : signed_bytes 9 (magnitude item) negative ≡ item
    own = subst (λ b. signed_bytes 9 (magnitude item) b ≡ item) sign (same_bytes 9 0 item (omega (arith, le)) h e s)

    by_sign : (b : Bool) → 1 ≤ magnitude item → signed_bytes 9 (magnitude item) b ≡ item → item_of_number (signed b (magnitude item)) ≡ item
    by_sign false n o = let t : (magnitude item == 0) ≡ false = grind (arith, n) in rw t o
    by_sign true n o =
        let r : magnitude item - 1 + 1 ≡ magnitude item = omega (arith, n) in
        rw (negated (magnitude item) n, r) o

    by_zero : (t : Bool) → (magnitude item == 0) ≡ t → item_of_number (signed negative (magnitude item)) ≡ item
    by_zero true z =
        let n : magnitude item ≡ 0 = grind (arith, z) in
        let bad = zero_ends 0 item n e s in
        absurd (omega (arith, bad))
    by_zero false z = by_sign negative (grind (arith, z)) own

pub shortest_item : (item : List ℕ) (z : ℤ) → IsBytes item → number_of_item item ≡ Some z → IsItemOf item z
unfolding number_of_item item_of_number
shortest_item [] z h n = let e : pos 0 ≡ z = cc in subst (IsItemOf []) e (record { least = omega arith; same = λ s. refl })
shortest_item (b ∷ rest) z h n = by_length (nat_le (length (b ∷ rest)) 4) refl n
  where
    by_length : (t : Bool) → nat_le (length (b ∷ rest)) 4 ≡ t
        → (if t then Some (signed (is_negative (b ∷ rest)) (magnitude (b ∷ rest))) else None) ≡ Some z → IsItemOf (b ∷ rest) z
    by_length true t k =
        let e : signed (is_negative (b ∷ rest)) (magnitude (b ∷ rest)) ≡ z = cc in
        let some : (length (b ∷ rest) == 0) ≡ false = grind arith in
        let le : length (b ∷ rest) ≤ 4 = grind (arith, t) in
        subst (IsItemOf (b ∷ rest)) e (record {
          least = item_least (is_negative (b ∷ rest)) (b ∷ rest) h some;
          same = λ s. item_same (is_negative (b ∷ rest)) (b ∷ rest) refl h some le s;
        })
    by_length false t k = cc
