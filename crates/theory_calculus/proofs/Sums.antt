-- Sums of deposits and balances: what goes and what stays make up the whole.
use Rattle.std.proofs.Common.{◌≡◌, ℕ, ◌+◌, List, [], ◌∷◌, map, Bool, true, false, not, Some, refl, sym, ap, ◌∙◌, subst, arith}
use Rattle.std.specs.Prelude.{◌||◌, ◌==◌, nat_lt, if◌then◌else◌, cond, filter, sum_by}
use Rattle.std.specs.List.{list_all}
use Rattle.std.proofs.lemmas.Bool.{and_parts, eqb-true, not-true}
use Rattle.std.proofs.lemmas.Bool.Decides.{nat_tests}
use Rattle.std.proofs.lemmas.List.Sums.{sum_by-cons}
use Rattle.spec_data.specs.Lists.{has_number, are_distinct}
use Rattle.spec_terms.specs.declared.path.PathStep.{PathStep}
use Rattle.spec_calculus.specs.declared.step.Owner.{Owner}
use Rattle.spec_calculus.specs.declared.parts.Deposit.{Deposit}
use Rattle.spec_calculus.specs.declared.parts.ActiveContract.{ActiveContract}
use Rattle.spec_calculus.specs.Moves.{value_at, value_in, value_out, kept, made}
use Rattle.spec_calculus.specs.Branches.{active_at, balance_of, gone, total_value, others, parts_made}
use Rattle.spec_calculus.specs.InOrder.{are_ascending}
use Rattle.theory_calculus.specs.Money.{total_balance}

abbrev value : Deposit → ℕ
value d = d.value

abbrev balance : ActiveContract → ℕ
balance a = a.balance

abbrev names : List Deposit → List ℕ
names ds = map (λ d. d.number) ds

abbrev numbers : List ActiveContract → List ℕ
numbers xs = map (λ a. a.number) xs

-- ---- what goes and what stays

sum_split : {X : Type 0} (f : X → ℕ) (p : X → Bool) (xs : List X)
    → sum_by f (filter (λ x. not (p x)) xs) + sum_by f (filter p xs) ≡ sum_by f xs
sum_split f p [] = refl
sum_split f p (x ∷ xs) = by_test (p x) (sum_split f p xs)
  where
    by_test : (b : Bool) → sum_by f (filter (λ y. not (p y)) xs) + sum_by f (filter p xs) ≡ sum_by f xs
        → sum_by f (if not b then x ∷ filter (λ y. not (p y)) xs else filter (λ y. not (p y)) xs) + sum_by f
        (if b then x ∷ filter p xs else filter p xs) ≡ sum_by f (x ∷ xs)
    by_test true h = rw (sum_by-cons f x (filter p xs), sum_by-cons f x xs) (omega (arith, h))
    by_test false h = rw (sum_by-cons f x (filter (λ y. not (p y)) xs), sum_by-cons f x xs) (omega (arith, h))

pub kept_gone : (ds : List Deposit) (ns : List ℕ) → total_value (kept ds ns) + total_value (gone ds ns) ≡ total_value ds
kept_gone ds ns = sum_split value (λ d. has_number d.number ns) ds

-- ---- the deposits of some numbers

pub gone_none : (ds : List Deposit) → total_value (gone ds []) ≡ 0
gone_none [] = refl
gone_none (d ∷ ds) = gone_none ds

-- a number that isn't among the others takes what it takes alone
pub gone_apart : (n : ℕ) (ns : List ℕ) (ds : List Deposit) → has_number n ns ≡ false
    → total_value (gone ds (n ∷ ns)) ≡ total_value (gone ds (n ∷ [])) + total_value (gone ds ns)
gone_apart n ns [] h = refl
gone_apart n ns (d ∷ ds) h = by_tests (n == d.number) (has_number d.number ns) refl refl (gone_apart n ns ds h)
  where
    by_tests : (a b : Bool) → (n == d.number) ≡ a → has_number d.number ns ≡ b
        → total_value (gone ds (n ∷ ns)) ≡ total_value (gone ds (n ∷ [])) + total_value (gone ds ns)
        → total_value (if a || b then d ∷ gone ds (n ∷ ns) else gone ds (n ∷ ns))
        ≡ total_value (if a || false then d ∷ gone ds (n ∷ []) else gone ds (n ∷ [])) + total_value
        (if b then d ∷ gone ds ns else gone ds ns)
    by_tests true true ea eb ih =
        let q = eqb-true n d.number ea in let f : has_number d.number ns ≡ false = subst (λ m. has_number m ns ≡ false) q h in cc
    by_tests true false ea eb ih = rw (sum_by-cons value d (gone ds (n ∷ ns)), sum_by-cons value d (gone ds (n ∷ []))) (omega (arith, ih))
    by_tests false true ea eb ih = rw (sum_by-cons value d (gone ds (n ∷ ns)), sum_by-cons value d (gone ds ns)) (omega (arith, ih))
    by_tests false false ea eb ih = ih

gone_above : (n : ℕ) (ds : List Deposit) → list_all (λ m. nat_lt n m) (names ds) ≡ true → total_value (gone ds (n ∷ [])) ≡ 0
gone_above n [] h = refl
gone_above n (d ∷ ds) h =
    let p = and_parts (nat_lt n d.number) (list_all (λ m. nat_lt n m) (names ds)) h in
    let e : (n == d.number) ≡ false = grind (arith, nat_tests, p.0) in
    rw e (gone_above n ds p.1)

gone_one : (n : ℕ) (ds : List Deposit) → are_ascending (names ds) ≡ true → total_value (gone ds (n ∷ [])) ≡ value_at ds n
gone_one n [] h = refl
gone_one n (d ∷ ds) h =
    let p = and_parts (list_all (λ m. nat_lt d.number m) (names ds)) (are_ascending (names ds)) h in
    by_test (n == d.number) refl p.0 (gone_one n ds p.1)
  where
    by_test : (b : Bool) → (n == d.number) ≡ b → list_all (λ m. nat_lt d.number m) (names ds) ≡ true
        → total_value (gone ds (n ∷ [])) ≡ value_at ds n → total_value (gone (d ∷ ds) (n ∷ [])) ≡ value_at (d ∷ ds) n
    by_test true e l ih =
        let q = eqb-true n d.number e in
        let t : (d.number == n) ≡ true = grind (arith, nat_tests, q) in
        let above : list_all (λ m. nat_lt n m) (names ds) ≡ true = subst (λ k. list_all (λ m. nat_lt k m) (names ds) ≡ true) (sym q) l in
        let none = gone_above n ds above in
        rw (e, t, sum_by-cons value d (gone ds (n ∷ [])), none) (omega arith)
    by_test false e l ih = let f : (d.number == n) ≡ false = grind (arith, nat_tests, e) in rw (e, f) ih

-- distinct numbers' deposits have their values
pub gone_value : (ds : List Deposit) (ns : List ℕ) → are_ascending (names ds) ≡ true → are_distinct ns ≡ true
    → total_value (gone ds ns) ≡ value_in ds ns
gone_value ds [] h d = gone_none ds
gone_value ds (n ∷ ns) h d =
    let p = and_parts (not (has_number n ns)) (are_distinct ns) d in
    let a = gone_apart n ns ds (not-true _ p.0) in
    let one = gone_one n ds h in
    let ih = gone_value ds ns h p.1 in
    a ∙ (λ i. one i + ih i) ∙ sym (sum_by-cons (λ m. value_at ds m) n ns)

-- ---- the other contracts

others_above : (n : ℕ) (xs : List ActiveContract) → list_all (λ m. nat_lt n m) (numbers xs) ≡ true → others xs n ≡ xs
others_above n [] h = refl
others_above n (x ∷ xs) h =
    let p = and_parts (nat_lt n x.number) (list_all (λ m. nat_lt n m) (numbers xs)) h in
    let e : (x.number == n) ≡ false = grind (arith, nat_tests, p.0) in
    rw e (ap (λ ys. x ∷ ys) (others_above n xs p.1))

pub others_balance : (n : ℕ) (xs : List ActiveContract) → are_ascending (numbers xs) ≡ true
    → total_balance (others xs n) + balance_of (active_at xs n) ≡ total_balance xs
others_balance n [] h = refl
others_balance n (x ∷ xs) h =
    let p = and_parts (list_all (λ m. nat_lt x.number m) (numbers xs)) (are_ascending (numbers xs)) h in
    by_test (x.number == n) refl p.0 (others_balance n xs p.1)
  where
    by_test : (b : Bool) → (x.number == n) ≡ b → list_all (λ m. nat_lt x.number m) (numbers xs) ≡ true
        → total_balance (others xs n) + balance_of (active_at xs n) ≡ total_balance xs
        → total_balance (if not b then x ∷ others xs n else others xs n) + balance_of (cond b (Some x) (active_at xs n))
        ≡ total_balance (x ∷ xs)
    by_test true e l ih =
        let q = eqb-true x.number n e in
        let o : others xs n ≡ xs = others_above n xs (subst (λ k. list_all (λ m. nat_lt k m) (numbers xs) ≡ true) q l) in
        rw (o, sum_by-cons balance x xs) (omega arith)
    by_test false e l ih = rw (sum_by-cons balance x (others xs n), sum_by-cons balance x xs) (omega (arith, ih))

-- ---- what is new

pub made_value : (n : ℕ) (os : List (Owner × ℕ)) → total_value (made n os) ≡ value_out os
made_value n [] = refl
made_value n (o ∷ os) =
    let d : Deposit = record { number = n; owner = o.0; value = o.1 } in
    let f : Owner × ℕ → ℕ = λ p. p.1 in
    let ih = made_value (n + 1) os in
    sum_by-cons value d (made (n + 1) os) ∙ ap (λ m. o.1 + m) ih ∙ sym (sum_by-cons (λ (p : Owner × ℕ). p.1) o os)

-- numbers, added up
abbrev pub sum_of : List ℕ → ℕ
sum_of [] = 0
sum_of (v ∷ vs) = v + sum_of vs

pub parts_value : (n contract : ℕ) (path : List PathStep) (k : ℕ) (vs : List ℕ)
    → total_balance (parts_made n contract path k vs) ≡ sum_of vs
parts_value n contract path k [] = refl
parts_value n contract path k (v ∷ vs) =
    let ih = parts_value (n + 1) contract path (k + 1) vs in
    rw (sum_by-cons balance _ (parts_made (n + 1) contract path (k + 1) vs)) (ap (λ m. v + m) ih)
