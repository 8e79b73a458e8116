-- The bytes of a number, one at a time.
use Rattle.std.proofs.Common.{◌≡◌, ℕ, zero, suc, ◌+◌, ◌-◌, ◌/◌, ◌%◌, ◌<◌, ◌≤◌, List, [], ◌∷◌, ◌++◌, Bool, true, false, refl, sym, ap, ◌∙◌, arith, append_assoc, append-nil}
use Rattle.std.specs.Prelude.{if◌then◌else◌, nat_lt}
use Rattle.spec_bitcoin.specs.Numbers.{signed_bytes}

test_true : (n k : ℕ) → n < k → nat_lt n k ≡ true
test_true n k h = grind arith

test_false : (n k : ℕ) → k ≤ n → nat_lt n k ≡ false
test_false n k h = grind arith

pub last_byte : (k n : ℕ) (negative : Bool) → 0 < k → n < 128 → signed_bytes k n negative ≡ (n + (if negative then 128 else 0)) ∷ []
unfolding signed_bytes
last_byte zero n negative h lt = absurd (omega arith)
last_byte (suc k) n negative h lt = rw (test_true n 128 lt) refl

pub more_bytes : (k n : ℕ) (negative : Bool) → 0 < k → 128 ≤ n → signed_bytes k n negative ≡ (n % 256) ∷ signed_bytes (k - 1) (n / 256) negative
unfolding signed_bytes
more_bytes zero n negative h le = absurd (omega arith)
more_bytes (suc k) n negative h le = let e : suc k - 1 ≡ k = omega arith in rw (test_false n 128 le, e) refl

pub no_bytes : (n : ℕ) (negative : Bool) → signed_bytes 0 n negative ≡ []
unfolding signed_bytes
no_bytes n negative = refl

-- the loop's step and its end
pub byte_more : (items next all : List ℕ) (i n : ℕ) (negative : Bool) → i < 9 → 128 ≤ n → next ≡ items ++ (n % 256) ∷ [] → items
    ++ signed_bytes (9 - i) n negative ≡ all → next ++ signed_bytes (9 - (i + 1)) (n / 256) negative ≡ all
byte_more items next all i n negative lt le e h =
    let step = more_bytes (9 - i) n negative (omega arith) le in
    let less : 9 - i - 1 ≡ 9 - (i + 1) = omega arith in
    rw (e, ← less) (append_assoc items ((n % 256) ∷ []) (signed_bytes (9 - i - 1) (n / 256) negative) ∙ rw (← step) h)

pub byte_end : (items all : List ℕ) (i n : ℕ) (negative : Bool) → 9 ≤ i → items ++ signed_bytes (9 - i) n negative ≡ all → items ≡ all
byte_end items all i n negative le h =
    let over : 9 - i ≡ 0 = omega arith in
    sym (append-nil items) ∙ ap (λ l. items ++ l) (sym (no_bytes n negative)) ∙ rw over at h
