-- What spending and making outputs does to the live value.
use Rattle.std.proofs.Common.{◌≡◌, ℕ, zero, suc, ◌+◌, ◌<◌, List, [], ◌∷◌, ◌++◌, true, false, not, Option, Some, None, refl, sym, ap, ◌∙◌, arith}
use Rattle.std.specs.Prelude.{◌==◌, ◌||◌, slice_get, if◌then◌else◌}
use Rattle.std.proofs.lemmas.Bool.{and_parts, eq-eqb, ne_eqb, not-true}
use Rattle.std.proofs.lemmas.List.Sums.{sum_by-cons}
use Rattle.spec_data.specs.Lists.{has_number, are_distinct}
use Rattle.spec_bitcoin.specs.declared.tx.OutPoint.{OutPoint}
use Rattle.spec_bitcoin.specs.declared.tx.TxIn.{TxIn}
use Rattle.spec_bitcoin.specs.declared.tx.TxOut.{TxOut}
use Rattle.spec_bitcoin.specs.Verdict.{total_of}
use Rattle.spec_run.specs.World.{ContractPosition, Output}
use Rattle.spec_run.specs.Ledger.{spend_from, made_from}
use Rattle.spec_run.specs.Values.{total_live}
use Rattle.theory_world.proofs.Ledger.Found.{stands, value_or_zero, values_at, StandFor}

pub total-append : (xs ys : List Output) → total_live (xs ++ ys) ≡ total_live xs + total_live ys
total-append [] ys = omega arith
total-append (x ∷ xs) ys = let ih = total-append xs ys in omega (arith, ih)

pub total-made : (held : ℕ → Option ContractPosition) (id : List ℕ) (k : ℕ) (os : List TxOut) → total_live (made_from held id k os) ≡ total_of os
total-made held id k [] = refl
total-made held id k (o ∷ os) = let c = sum_by-cons (λ (x : TxOut). x.value) o os in ap (λ n. o.value + n) (total-made held id (k + 1) os) ∙ sym c

pub spend-none : (k : ℕ) (os : List Output) → spend_from k [] os ≡ os
spend-none k [] = refl
spend-none k (o ∷ os) = ap (λ xs. o ∷ xs) (spend-none (k + 1) os)

-- a number that lies before spends nothing
pub spend-before : (j k : ℕ) (ns : List ℕ) (os : List Output) → j < k → spend_from k (j ∷ ns) os ≡ spend_from k ns os
spend-before j k ns [] h = refl
spend-before j k ns (o ∷ os) h =
    let t : (j == k) ≡ false = ne_eqb j k (λ e. omega (arith, h, e)) in
    let ih = spend-before j (k + 1) ns os (omega (arith, h)) in
    let u : has_number k (j ∷ ns) ≡ has_number k ns = ap (λ b. b || has_number k ns) t in
    λ i. (if u i then record o { live = false } else o) ∷ ih i

-- one number more spends its output's value
pub spend-one : (k n : ℕ) (ns : List ℕ) (os : List Output) (o : Output) → slice_get os n ≡ Some o → o.live ≡ true → has_number (n + k) ns ≡ false
    → total_live (spend_from k ((n + k) ∷ ns) os) + o.value ≡ total_live (spend_from k ns os)
spend-one k n ns [] o h l a = cc
spend-one k zero ns (x ∷ os) o h l a =
    let e : x ≡ o = cc in
    let z : 0 + k ≡ k = omega arith in
    let r : spend_from (k + 1) (k ∷ ns) os ≡ spend_from (k + 1) ns os = spend-before k (k + 1) ns os (omega arith) in
    let b : has_number k ns ≡ false = rw z at a in
    let lx : x.live ≡ true = ap (λ (y : Output). y.live) e ∙ l in
    let v : x.value ≡ o.value = ap (λ (y : Output). y.value) e in
    let t : (k == k) ≡ true = eq-eqb k k refl in
    rw (z, r, t, b, lx) (omega (arith, v))
spend-one k (suc n) ns (x ∷ os) o h l a =
    let z : n + (k + 1) ≡ suc n + k = omega arith in
    let b : has_number (n + (k + 1)) ns ≡ false = rw z a in
    let ih : total_live (spend_from (k + 1) ((suc n + k) ∷ ns) os) + o.value ≡ total_live (spend_from (k + 1) ns os) =
    rw z at (spend-one (k + 1) n ns os o h l b) in
    let t : (suc n + k == k) ≡ false = ne_eqb (suc n + k) k (λ e. omega (arith, e)) in
    let u : has_number k ((suc n + k) ∷ ns) ≡ has_number k ns = ap (λ c. c || has_number k ns) t in
    rw u (omega (arith, ih))

-- what stands at a place is an output that is live
pub all_funded-some : (r : Option Output) (place : OutPoint) → stands r place ≡ true → (o : Output) × (r ≡ Some o) × (o.live ≡ true)
all_funded-some None place h = cc
all_funded-some (Some o) place h = (o, refl, (and_parts o.live _ h).0)

-- spending different live outputs takes their values
pub spend-all : (os : List Output) (ns : List ℕ) (is : List TxIn) → StandFor os ns is → are_distinct ns ≡ true
    → total_live (spend_from 0 ns os) + values_at os ns ≡ total_live os
spend-all os [] is h d = rw (spend-none 0 os) (omega arith)
spend-all os (n ∷ ns) [] h d = absurd h
spend-all os (n ∷ ns) (i ∷ is) h d =
    let p = and_parts (not (has_number n ns)) (are_distinct ns) d in
    let s = all_funded-some (slice_get os n) i.prev h.0 in
    let z : n + 0 ≡ n = omega arith in
    let a : has_number (n + 0) ns ≡ false = rw z (not-true (has_number n ns) p.0) in
    let one = rw z at (spend-one 0 n ns os s.0 s.1 s.2 a) in
    let ih = spend-all os ns is h.1 p.1 in
    let v : value_or_zero (slice_get os n) ≡ s.0.value = ap value_or_zero s.1 in
    omega (arith, one, ih, v)
