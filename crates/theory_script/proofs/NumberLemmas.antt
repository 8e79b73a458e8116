-- A number's shortest item, read again.
use Rattle.std.proofs.Common.{◌≡◌, ℕ, zero, suc, ◌+◌, ◌*◌, ◌/◌, ◌%◌, ◌<◌, ◌≤◌, List, [], ◌∷◌, length, Bool, true, false, Some, refl, ap, arith}
use Rattle.std.specs.Prelude.{if◌then◌else◌, nat_lt, nat_le, ◌==◌, ℤ, pos, negsuc, ◌-ℤ◌, ◌+ℤ◌}
use Rattle.std.proofs.Math.Nat.{div-add-mod}
use Rattle.std.proofs.lemmas.Int.{ints}
use Rattle.theory_script.specs.Items.{size_of_number}
use Rattle.spec_bitcoin.specs.Numbers.{signed_bytes, item_of_number, number_of_item, magnitude, is_negative}

-- enough bytes for the number, the room for its sign included
abbrev pub room : ℕ → ℕ
room zero = 128
room (suc j) = 256 * room j

-- the item has at least one byte and at most so many, and says the number and its sign
pub record Spells (item : List ℕ) (n : ℕ) (negative : Bool) (most : ℕ) : Type 0 where
  pub some : (length item == 0) ≡ false
  pub short : length item ≤ most
  pub size : magnitude item ≡ n
  pub sign : is_negative item ≡ negative

last_byte : (n : ℕ) (negative : Bool) → n < 128 → Spells ((n + (if negative then 128 else 0)) ∷ []) n negative 1
last_byte n true h = record { some = refl; short = omega arith; size = grind arith; sign = grind arith }
last_byte n false h = record { some = refl; short = omega arith; size = grind arith; sign = grind arith }

more_bytes : (n most : ℕ) (negative : Bool) (rest : List ℕ) → Spells rest (n / 256) negative most → Spells ((n % 256) ∷ rest) n negative (most + 1)
more_bytes n most negative rest s =
    let d = div-add-mod n 256 in
    record { some = grind arith; short = omega (arith, s.short); size = rw (s.some, s.size) (omega (arith, d)); sign = rw (s.some) s.sign }

pub spells : (j k n : ℕ) (negative : Bool) → j < k → n < room j → Spells (signed_bytes k n negative) n negative (j + 1)
unfolding signed_bytes
spells zero zero n negative h lt = absurd (omega arith)
spells (suc j) zero n negative h lt = absurd (omega arith)
spells zero (suc k) n negative h lt =
    let t : nat_lt n 128 ≡ true = grind arith in
    rw t (last_byte n negative lt)
spells (suc j) (suc k) n negative h lt = by_size (nat_lt n 128) refl (spells j k (n / 256) negative (omega arith) (omega (arith, div-add-mod n 256)))
  where
    by_size : (b : Bool) → nat_lt n 128 ≡ b → Spells (signed_bytes k (n / 256) negative) (n / 256) negative (j + 1)
        → Spells (if b then (n + (if negative then 128 else 0)) ∷ [] else (n % 256) ∷ signed_bytes k (n / 256) negative) n negative (suc j + 1)
    by_size true t ih =
        let s = last_byte n negative (grind arith) in
        record { some = s.some; short = omega (arith, s.short); size = s.size; sign = s.sign }
    by_size false t ih =
        let e : suc j + 1 ≡ (j + 1) + 1 = omega arith in
        rw e (more_bytes n (j + 1) negative (signed_bytes k (n / 256) negative) ih)

positive : (n : ℕ) (b : Bool) → n ≤ 2147483647 → (n == 0) ≡ b → number_of_item (if b then [] else signed_bytes 9 n false) ≡ Some (pos n)
unfolding number_of_item
positive n true h t = let e : n ≡ 0 = grind arith in rw e
positive n false h t =
    let s = spells 3 9 n false (omega arith) (omega arith) in
    let short : nat_le (length (signed_bytes 9 n false)) 4 ≡ true = grind (arith, s.short) in
    rw (short, s.size, s.sign)

pub number_again : (z : ℤ) → size_of_number z ≤ 2147483647 → number_of_item (item_of_number z) ≡ Some z
unfolding number_of_item item_of_number
number_again (pos n) h = positive n (n == 0) h refl
number_again (negsuc n) h =
    let s = spells 3 9 (n + 1) true (omega arith) (omega arith) in
    let short : nat_le (length (signed_bytes 9 (n + 1) true)) 4 ≡ true = grind (arith, s.short) in
    rw (short, s.size, s.sign) (ap Some (omega (arith, ints)))

pub size_of_sum : (x y : ℤ) → size_of_number (x +ℤ y) ≤ size_of_number x + size_of_number y
size_of_sum x y = grind (arith, ints)

pub size_of_difference : (x y : ℤ) → size_of_number (x -ℤ y) ≤ size_of_number x + size_of_number y
size_of_difference x y = grind (arith, ints)
