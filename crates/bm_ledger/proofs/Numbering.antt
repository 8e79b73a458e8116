-- Birth numbers that increase along the list of live outputs.
use Rattle.std.proofs.Common.{◌≡◌, ℕ, zero, suc, ◌+◌, ◌<◌, ◌≤◌, List, [], ◌∷◌, ◌++◌, length, take, Bool, true, false, cond, Some, None, refl, sym, subst, arith, slice_get}
use Rattle.std.specs.Prelude.{◌≢◌, ◌==◌, nat_lt, slice_index_or, if◌then◌else◌}
use Rattle.std.proofs.lemmas.Bool.Decides.{nat_tests}
use Rattle.std.proofs.lemmas.List.{length-take-le}
use Rattle.std.specs.Map.{remove_entry}
use Rattle.std.specs.Option.{option_and_then, option_map}
use Rattle.std.specs.List.Sorted.{IsPartitionedBy, IsPartitionPoint}
use Rattle.spec_bitcoin.specs.declared.tx.OutPoint.{OutPoint}
use Rattle.spec_bitcoin.specs.declared.tx.TxOut.{TxOut}
use Rattle.spec_bitcoin.specs.Live.{Entry, same_outpoint, born, without}
use Rattle.bm_ledger.specs.Ordered.{numbered, if_numbered, AreInOrder}

-- ---- lists in order

from_lower : (low start high : ℕ) (es : List Entry) → low ≤ start → AreInOrder start high es → AreInOrder low high es
from_lower low start high [] le h = tt
from_lower low start high (e ∷ es) le h = ((let a = h.0 in omega arith), h.1, h.2)

pub below_higher : (low high end : ℕ) (es : List Entry) → high ≤ end → AreInOrder low high es → AreInOrder low end es
below_higher low high end [] le h = tt
below_higher low high end (e ∷ es) le h = (h.0, (let a = h.1 in omega arith), below_higher (e.1.0 + 1) high end es le h.2)

pub in_order-append : (low middle high : ℕ) (xs ys : List Entry) → low ≤ middle → middle ≤ high → AreInOrder low middle xs
    → AreInOrder middle high ys → AreInOrder low high (xs ++ ys)
in_order-append low middle high [] ys le le' a b = from_lower low middle high ys le b
in_order-append low middle high (x ∷ xs) ys le le' a b =
    let lt = a.1 in
    (a.0, (omega arith), in_order-append (x.1.0 + 1) middle high xs ys (omega arith) le' a.2 b)

in_order-born : (births : ℕ) (txid : List ℕ) (k high : ℕ) (os : List TxOut) → births + k + length os ≤ high
    → AreInOrder (births + k) high (born births txid k os)
in_order-born births txid k high [] le = tt
in_order-born births txid k high (o ∷ os) le =
    let e : births + (k + 1) ≡ births + k + 1 = omega arith in (
      omega arith,
      omega arith,
      subst (λ (low : ℕ). AreInOrder low high (born births txid (k + 1) os)) e
          (in_order-born births txid (k + 1) high os (omega arith)),
    )

-- the outputs of a transaction after the others
pub in_order-more : (births : ℕ) (txid : List ℕ) (es : List Entry) (os : List TxOut) → AreInOrder 0 births es
    → AreInOrder 0 (births + length os) (es ++ born births txid 0 os)
in_order-more births txid es os h =
    let e : births + 0 ≡ births = omega arith in
    in_order-append 0 births (births + length os) es (born births txid 0 os) (omega arith) (omega arith) h
    (subst (λ (low : ℕ). AreInOrder low (births + length os) (born births txid 0 os)) e (in_order-born births txid 0 (births + length os) os (omega arith)))

-- the first outputs of a transaction after the others
pub in_order-so_far : (births : ℕ) (txid : List ℕ) (es now : List Entry) (os : List TxOut) (i : ℕ) → AreInOrder 0 births es → now ≡ es
    ++ born births txid 0 (take i os) → i < length os → AreInOrder 0 (births + i) now
in_order-so_far births txid es now os i h is lt =
    let count : length (take i os) ≡ i = length-take-le i os (omega arith) in
    subst (AreInOrder 0 (births + i)) (sym is)
    (subst (λ (n : ℕ). AreInOrder 0 (births + n) (es ++ born births txid 0 (take i os))) count (in_order-more births txid es (take i os) h))

-- the outputs of the first transaction
pub in_order-first : (txid : List ℕ) (os : List TxOut) → AreInOrder 0 (length os) (born 0 txid 0 os)
in_order-first txid os = in_order-born 0 txid 0 (length os) os (omega arith)

pub in_order-remove_entry : (low high : ℕ) (place : OutPoint) (es : List Entry) → AreInOrder low high es
    → AreInOrder low high (remove_entry (same_outpoint place) es)
in_order-remove_entry low high place [] h = tt
in_order-remove_entry low high place (e ∷ es) h =
    elim (same_outpoint place e.0) as (λ b. AreInOrder low high (cond b es (e ∷ remove_entry (same_outpoint place) es))) [
      | true ↦ from_lower low (e.1.0 + 1) high es (let a = h.0 in omega arith) h.2
      | false ↦ (h.0, h.1, in_order-remove_entry (e.1.0 + 1) high place es h.2)
    ]

-- those that are left when some are spent
pub in_order-without : (low high : ℕ) (places : List OutPoint) (es : List Entry) → AreInOrder low high es → AreInOrder low high (without es places)
in_order-without low high [] es h = h
in_order-without low high (place ∷ places) es h =
    in_order-without low high places (remove_entry (same_outpoint place) es) (in_order-remove_entry low high place es h)

-- ---- the output of a number

-- whether the birth number is below this one
abbrev pub is_below : ℕ → Entry → Bool
is_below number e = nat_lt e.1.0 number

rising : (low high : ℕ) (es : List Entry) (j : ℕ) (d : Entry) → AreInOrder low high es → j < length es → low ≤ (slice_index_or es j d).1.0
rising low high [] j d h lt = absurd (omega arith)
rising low high (e ∷ es) zero d h lt = h.0
rising low high (e ∷ es) (suc j) d h lt = let r = rising (e.1.0 + 1) high es j d h.2 (omega arith) in let a = h.0 in omega arith

below-true : (n m : ℕ) → n < m → nat_lt n m ≡ true
below-true n m h = grind (arith, nat_tests)

below-is : (n m : ℕ) → nat_lt n m ≡ true → n < m
below-is n m h = grind (arith, nat_tests)

below-not : (n m : ℕ) → nat_lt n m ≡ false → m ≤ n
below-not n m h = grind (arith, nat_tests)

-- lower numbers come first
pub partitioned : (low high number : ℕ) (es : List Entry) → AreInOrder low high es → IsPartitionedBy (is_below number) es
partitioned low high number [] h i j d le lt t = absurd (omega arith)
partitioned low high number (e ∷ es) h zero zero d le lt t = t
partitioned low high number (e ∷ es) h (suc i) zero d le lt t = absurd (omega arith)
partitioned low high number (e ∷ es) h zero (suc j) d le lt t =
    let r = rising (e.1.0 + 1) high es j d h.2 (omega arith) in
    let b = below-is (slice_index_or es j d).1.0 number t in
    below-true e.1.0 number (omega arith)
partitioned low high number (e ∷ es) h (suc i) (suc j) d le lt t = partitioned (e.1.0 + 1) high number es h.2 i j d (omega arith) (omega arith) t

pub other_number : (n m : ℕ) → n ≢ m → n == m ≡ false
other_number n m h = grind (arith, nat_tests)

all_above : (low high number : ℕ) (es : List Entry) → number < low → AreInOrder low high es → numbered es number ≡ None
all_above low high number [] lt h = refl
all_above low high number (e ∷ es) lt h =
    let a = h.0 in
    let apart : e.1.0 == number ≡ false = other_number e.1.0 number (λ s. omega arith) in
    rw apart (all_above (e.1.0 + 1) high number es (omega arith) h.2)

-- the output of a number stands where the lower numbers end
pub numbered-at : (low high number : ℕ) (es : List Entry) (i : ℕ) → AreInOrder low high es → i ≤ length es
    → IsPartitionPoint (λ e. is_below number e ≡ true) (λ e. is_below number e ≡ false) es i → numbered es number
    ≡ option_and_then (if_numbered number) (slice_get es i)
numbered-at low high number [] i h le point = refl
numbered-at low high number (e ∷ es) zero h le point =
    let above = below-not e.1.0 number (point.1 0 e (omega arith) (omega arith)) in
    elim (e.1.0 == number) as (λ b. e.1.0 == number ≡ b → cond b (Some e) (numbered es number) ≡ (if b then Some e else None)) [
      | true ↦ λ t. refl
      | false ↦ λ t. all_above (e.1.0 + 1) high number es
          (let apart : e.1.0 ≢ number = λ s. (let same : e.1.0 == number ≡ true = grind (arith, nat_tests) in cc) in omega arith) h.2
    ] refl
numbered-at low high number (e ∷ es) (suc i) h le point =
    let before = below-is e.1.0 number (point.0 0 e (omega arith) (omega arith)) in
    let apart : e.1.0 == number ≡ false = other_number e.1.0 number (λ s. omega arith) in
    rw apart (numbered-at (e.1.0 + 1) high number es i h.2 (omega arith)
    ((λ k d le' lt. point.0 (suc k) d (omega arith) (omega arith)), (λ k d le' lt. point.1 (suc k) d (omega arith) (omega arith))))

found-least : (low high number : ℕ) (es : List Entry) (i : ℕ) → AreInOrder low high es → option_map (λ e. e.1.0) (slice_get es i) ≡ Some number → low ≤ number
found-least low high number [] i h at = cc
found-least low high number (e ∷ es) zero h at = let is : e.1.0 ≡ number = cc in let a = h.0 in omega arith
found-least low high number (e ∷ es) (suc i) h at = let r = found-least (e.1.0 + 1) high number es i h.2 at in let a = h.0 in omega arith

-- an output of a number, wherever it was found, is the output of that number
pub numbered-found : (low high number : ℕ) (es : List Entry) (i : ℕ) → AreInOrder low high es → option_map (λ e. e.1.0) (slice_get es i)
    ≡ Some number → numbered es number ≡ option_and_then (if_numbered number) (slice_get es i)
numbered-found low high number [] i h at = refl
numbered-found low high number (e ∷ es) zero h at =
    let is : e.1.0 ≡ number = cc in
    let here : e.1.0 == number ≡ true = grind (arith, nat_tests) in
    rw here refl
numbered-found low high number (e ∷ es) (suc i) h at =
    let r = found-least (e.1.0 + 1) high number es i h.2 at in
    let apart : e.1.0 == number ≡ false = other_number e.1.0 number (λ s. omega arith) in
    rw apart (numbered-found (e.1.0 + 1) high number es i h.2 at)
