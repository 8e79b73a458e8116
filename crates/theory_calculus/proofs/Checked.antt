-- What a contract that has passed the check has: different names, and balances that pay for what each branch does.
use Rattle.std.proofs.Common.{◌≡◌, ℕ, ◌+◌, ◌-◌, ◌≤◌, ℤ, pos, List, [], ◌∷◌, Bool, true, false, not, None, refl, ap, ◌∙◌, subst, arith, inl}
use Rattle.std.specs.Prelude.{◌&&◌, ◌+ℤ◌, ◌-ℤ◌, int_lt, sum_by}
use Rattle.std.specs.Ordering.{int_eq}
use Rattle.std.proofs.lemmas.Int.{ints}
use Rattle.std.proofs.lemmas.Bool.{and_parts, not-false}
use Rattle.std.proofs.lemmas.Bool.Decides.{Decides-int_eq}
use Rattle.std.proofs.lemmas.List.Sums.{sum_by-cons}
use Rattle.spec_data.specs.Lists.{are_different, look_up}
use Rattle.spec_terms.specs.Advert.{Advert}
use Rattle.spec_terms.specs.Balance.{Funded, as_funded, after_put, root_balance, all_funded}
use Rattle.spec_terms.specs.Core.{core}
use Rattle.spec_terms.specs.Core as cores
use Rattle.spec_terms.specs.Faults.{IsWellFormed, first_place, at_core, puts_unknown, repeats, are_among, sum_of_parts, is_uneven, is_withdraw, is_short}
use Rattle.spec_terms.specs.Paths.{position, at_branch}
use Rattle.spec_terms.specs.Precondition.{Holding, persistent, volatile, deposits, names_of, total_of, value_of, value_of_puts}
use Rattle.spec_terms.specs.Term.{Guarded, auth, after, put_reveal, withdraw, split, Contract, Parts}
use Rattle.spec_terms.specs.declared.path.PathStep.{PathStep}
use Rattle.theory_calculus.specs.Money.{Pays}
use Rattle.theory_calculus.specs.Members.{Is_in}
use Rattle.theory_calculus.proofs.Stands.{none_at, stands_next}
use Rattle.theory_calculus.proofs.Faultless.{no_fault}
use Rattle.theory_calculus.proofs.Names.{different_names, persistent_different, deposits_different}

-- ---- sums by names

-- what a name is worth among these deposits
abbrev pub worth_among : List (List ℕ × Holding) → List ℕ → ℕ
worth_among ps x = value_of (look_up x ps)

pub puts_sum : (ps : List (List ℕ × Holding)) (xs : List (List ℕ)) → sum_by (worth_among ps) xs ≡ value_of_puts ps xs
puts_sum ps [] = refl
puts_sum ps (x ∷ xs) = sum_by-cons (worth_among ps) x xs ∙ ap (λ m. worth_among ps x + m) (puts_sum ps xs)

-- ---- numbers

no_less : (v fee : ℕ) → int_lt (pos v) (pos fee) ≡ false → fee ≤ v
no_less v fee h = grind (arith, ints, h)

enough : (v p fee : ℕ) → int_lt ((pos v +ℤ pos p) -ℤ pos fee) (pos 0) ≡ false → fee ≤ v + p
enough v p fee h = grind (arith, ints, h)

pub enough_alone : (v fee : ℕ) → int_lt (pos v -ℤ pos fee) (pos 0) ≡ false → fee ≤ v
enough_alone v fee h = grind (arith, ints, h)

pub difference : (v p fee : ℕ) → fee ≤ v + p → (pos v +ℤ pos p) -ℤ pos fee ≡ pos (v + p - fee)
difference v p fee k = omega (arith, ints, k)

pub difference_alone : (v fee : ℕ) → fee ≤ v → pos v -ℤ pos fee ≡ pos (v - fee)
difference_alone v fee k = omega (arith, ints, k)

same_number : (m n : ℕ) → not (int_eq (pos m) (pos n)) ≡ false → m ≡ n
same_number m n h = let d = (Decides-int_eq (pos m) (pos n)).0 (not-false _ h) in omega (arith, ints, d)

module _ (a : Advert) (well : IsWellFormed a) where
  pub deposit_names_differ : are_different (names_of (deposits a.pre)) ≡ true
  deposit_names_differ = deposits_different a.pre (different_names a well)

  pub persistent_names_differ : are_different (names_of (persistent a.pre)) ≡ true
  persistent_names_differ = persistent_different a.pre (different_names a well)

  -- ---- what each branch names

  branch_at : (s : Funded) (b : Guarded) (t : Guarded → Bool) → first_place (λ y. at_core t y.subterm) (all_funded a) ≡ None → Is_in s (all_funded a)
      → s.subterm ≡ at_branch b → t (core b) ≡ false
  branch_at s b t h i e = subst (λ y. at_core t y ≡ false) e (none_at (λ y. at_core t y.subterm) (all_funded a) s h i)

  pub puts_known : (q : List PathStep) (v : ℤ) (b : Guarded) → Is_in (as_funded q v (at_branch b)) (all_funded a)
      → are_among (cores.puts_of (core b)) (names_of (volatile a.pre)) ≡ true
  puts_known q v b i = not-false _ (branch_at (as_funded q v (at_branch b)) b (puts_unknown a.pre) (no_fault a well).1.0 i refl)

  pub puts_differ : (q : List PathStep) (v : ℤ) (b : Guarded) → Is_in (as_funded q v (at_branch b)) (all_funded a)
      → are_different (cores.puts_of (core b)) ≡ true
  puts_differ q v b i =
      (and_parts (are_different (cores.puts_of (core b))) (are_different (cores.reveals_of (core b)))
      (not-false _ (branch_at (as_funded q v (at_branch b)) b repeats (no_fault a well).1.1.1.0 i refl))).0

  -- ---- balances that pay

  -- a position's balance isn't negative
  pub position_pays : (q : List PathStep) (v : ℤ) (c : Contract) → Is_in (as_funded q v (position c)) (all_funded a) → int_lt v (pos 0) ≡ false
  position_pays q v c i =
      none_at (λ y. is_short a.fee y.balance y.subterm) (all_funded a) (as_funded q v (position c)) (no_fault a well).1.1.1.1.1.1.1.0 i

  short_withdraw : (v : ℕ) (c : Guarded) (party : List ℕ) → c ≡ withdraw party → (is_withdraw c && int_lt (pos v) (pos a.fee)) ≡ false
      → a.fee ≤ v
  short_withdraw v c party e h = no_less v a.fee (subst (λ y. (is_withdraw y && int_lt (pos v) (pos a.fee)) ≡ false) e h)

  even_split : (v : ℕ) (c : Guarded) (parts : Parts) → c ≡ split parts → is_uneven a.fee (pos v) c ≡ false → sum_of_parts parts + a.fee ≡ v
  even_split v c parts e h = same_number (sum_of_parts parts + a.fee) v (subst (λ y. is_uneven a.fee (pos v) y ≡ false) e h)

  pub branch_pays : (q : List PathStep) (v : ℕ) (b : Guarded) → Is_in (as_funded q (pos v) (at_branch b)) (all_funded a) → Pays a v (core b)
  branch_pays q v b i = by_core (core b) refl
    where
      by_core : (c : Guarded) → core b ≡ c → Pays a v c
      by_core (put_reveal puts reveals test next) e =
          enough v (value_of_puts (volatile a.pre) puts) a.fee
          (position_pays q (after_put (volatile a.pre) a.fee (pos v) puts) next (stands_next a q (pos v) b puts reveals test next i e))
      by_core (withdraw party) e =
          short_withdraw v (core b) party e
          (none_at (λ y. is_short a.fee y.balance y.subterm) (all_funded a) (as_funded q (pos v) (at_branch b)) (no_fault a well).1.1.1.1.1.1.1.0 i)
      by_core (split parts) e =
          even_split v (core b) parts e
          (none_at (λ y. at_core (is_uneven a.fee y.balance) y.subterm) (all_funded a) (as_funded q (pos v) (at_branch b))
          (no_fault a well).1.1.1.1.1.1.0 i)
      by_core (auth party body) e = tt
      by_core (after height body) e = tt

  -- the root holds the persistent deposits less the fee
  pub root_enough : a.fee ≤ total_of (persistent a.pre)
  root_enough = enough_alone (total_of (persistent a.pre)) a.fee (position_pays [] (root_balance a) a.root (inl refl))

  pub root_is : root_balance a ≡ pos (total_of (persistent a.pre) - a.fee)
  root_is = difference_alone (total_of (persistent a.pre)) a.fee root_enough
