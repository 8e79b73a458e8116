-- The deposits that go and those that stay, number by number.
use Rattle.std.proofs.Common.{◌≡◌, ℕ, ◌+◌, ◌-◌, ◌<◌, ◌≤◌, List, [], ◌∷◌, length, take, drop, get_or, map, Bool, true, false, not}
use Rattle.std.proofs.Common.{refl, ap, ◌∙◌, subst, arith}
use Rattle.std.specs.Prelude.{◌||◌, ◌==◌, if◌then◌else◌}
use Rattle.std.proofs.lemmas.Bool.{eqb-true}
use Rattle.std.proofs.lemmas.Bool.Decides.{nat_tests}
use Rattle.std.proofs.lemmas.List.Sums.{sum_by-cons}
use Rattle.std.proofs.lemmas.List.{drop_more, take_all}
use Rattle.std.proofs.Math.ListN.{drop_of_length-le}
use Rattle.spec_data.specs.Lists.{has_number}
use Rattle.spec_calculus.specs.declared.parts.Deposit.{Deposit}
use Rattle.spec_calculus.specs.Moves.{kept, value_at}
use Rattle.spec_calculus.specs.Branches.{gone, total_value}
use Rattle.spec_calculus.specs.InOrder.{are_ascending}
use Rattle.theory_calculus.proofs.Sums.{gone_apart, gone_none, gone_value, kept_gone}

abbrev value : Deposit → ℕ
value d = d.value

-- ---- what goes

-- a number that stands again takes nothing more
pub gone_again : (n : ℕ) (ns : List ℕ) (ds : List Deposit) → has_number n ns ≡ true
    → total_value (gone ds ns) ≡ total_value (gone ds (n ∷ ns))
gone_again n ns [] h = refl
gone_again n ns (d ∷ ds) h = by_test (n == d.number) refl (gone_again n ns ds h)
  where
    by_test : (a : Bool) → (n == d.number) ≡ a → total_value (gone ds ns) ≡ total_value (gone ds (n ∷ ns))
        → total_value (if has_number d.number ns then d ∷ gone ds ns else gone ds ns)
        ≡ total_value (if a || has_number d.number ns then d ∷ gone ds (n ∷ ns) else gone ds (n ∷ ns))
    by_test true e ih =
        let t : has_number d.number ns ≡ true = subst (λ m. has_number m ns ≡ true) (eqb-true n d.number e) h in
        rw (t, sum_by-cons value d (gone ds ns), sum_by-cons value d (gone ds (n ∷ ns))) (omega (arith, ih))
    by_test false e ih = by_other (has_number d.number ns)
      where
        by_other : (b : Bool) → total_value (if b then d ∷ gone ds ns else gone ds ns)
            ≡ total_value (if false || b then d ∷ gone ds (n ∷ ns) else gone ds (n ∷ ns))
        by_other true = rw (sum_by-cons value d (gone ds ns), sum_by-cons value d (gone ds (n ∷ ns))) (omega (arith, ih))
        by_other false = ih

-- a number that doesn't stand again takes the value of its deposit
pub gone_more : (n : ℕ) (ns : List ℕ) (ds : List Deposit) → are_ascending (map (λ d. d.number) ds) ≡ true → has_number n ns ≡ false
    → value_at ds n + total_value (gone ds ns) ≡ total_value (gone ds (n ∷ ns))
gone_more n ns ds a h =
    let one = gone_value ds (n ∷ []) a refl ∙ sum_by-cons (λ m. value_at ds m) n [] in
    let apart = gone_apart n ns ds h in
    omega (arith, one, apart)

-- a list that isn't empty, from its first and the others
headed : (ns : List ℕ) → 1 ≤ length ns → get_or ns 0 0 ∷ take (length ns - 1) (drop 1 ns) ≡ ns
headed [] h = absurd (omega (arith, h))
headed (n ∷ ns) h = ap (λ xs. n ∷ xs) (take_all (length (n ∷ ns) - 1) ns (omega arith))

pub gone_empty : (ds : List Deposit) (ns : List ℕ) → length ns < 1 → total_value (gone ds ns) ≡ 0
gone_empty ds [] h = gone_none ds
gone_empty ds (n ∷ ns) h = absurd (omega (arith, h))

-- what the first adds to what those before it gave is still part of the whole
pub part_within : (ds : List Deposit) (ns rest : List ℕ) (total more : ℕ) → 1 ≤ length rest
    → total + total_value (gone ds rest) ≡ total_value (gone ds ns)
    → more + total_value (gone ds (take (length rest - 1) (drop 1 rest)))
    ≡ total_value (gone ds (get_or rest 0 0 ∷ take (length rest - 1) (drop 1 rest)))
    → total + more ≤ total_value ds
part_within ds ns rest total more h told step =
    let whole = ap (λ xs. total_value (gone ds xs)) (headed rest h) in
    let parts = kept_gone ds ns in
    omega (arith, told, step ∙ whole, parts)

-- ---- what stays

kept_none : (ds : List Deposit) → kept ds [] ≡ ds
kept_none [] = refl
kept_none (d ∷ ds) = ap (λ xs. d ∷ xs) (kept_none ds)

pub kept_all : (ds : List Deposit) (ns : List ℕ) (i : ℕ) → length ns ≤ i → kept ds (drop i ns) ≡ ds
kept_all ds ns i h = rw (drop_of_length-le ns h) (kept_none ds)

-- one number after the other
kept_more : (n : ℕ) (ns : List ℕ) (ds : List Deposit) → kept (kept ds (n ∷ [])) ns ≡ kept ds (n ∷ ns)
kept_more n ns [] = refl
kept_more n ns (d ∷ ds) = by_test (n == d.number) (kept_more n ns ds)
  where
    by_test : (a : Bool) → kept (kept ds (n ∷ [])) ns ≡ kept ds (n ∷ ns)
        → kept (if not (a || false) then d ∷ kept ds (n ∷ []) else kept ds (n ∷ [])) ns
        ≡ (if not (a || has_number d.number ns) then d ∷ kept ds (n ∷ ns) else kept ds (n ∷ ns))
    by_test true ih = ih
    by_test false ih = rw ih refl

pub kept_next : (ds : List Deposit) (ns : List ℕ) (i : ℕ) → i < length ns
    → kept (kept ds (get_or ns i 0 ∷ [])) (drop (i + 1) ns) ≡ kept ds (drop i ns)
kept_next ds ns i h = rw (drop_more ns i 0 h) (kept_more (get_or ns i 0) (drop (i + 1) ns) ds)

pub stays_without : (n : ℕ) (d : Deposit) → not (has_number d.number (n ∷ [])) ≡ not (d.number == n)
stays_without n d = by_test (n == d.number) refl
  where
    by_test : (a : Bool) → (n == d.number) ≡ a → not (a || false) ≡ not (d.number == n)
    by_test true e = let t : (d.number == n) ≡ true = grind (arith, nat_tests, e) in rw t refl
    by_test false e = let f : (d.number == n) ≡ false = grind (arith, nat_tests, e) in rw f refl
