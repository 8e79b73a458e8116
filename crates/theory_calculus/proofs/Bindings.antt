-- What the deposits of a precondition are bound to: different numbers, of deposits that have the values asked as long as they are live.
use Rattle.std.proofs.Common.{◌≡◌, ℕ, ◌+◌, ◌<◌, ◌≤◌, List, [], ◌∷◌, ◌++◌, map, Bool, true, false, not, Option, Some, None, refl, sym, ap, ◌∙◌, subst, arith, inl, inr, ◌⊎◌}
use Rattle.std.specs.Prelude.{◌&&◌, ◌||◌, ◌==◌, nat_lt, if◌then◌else◌, sum_by}
use Rattle.std.specs.List.{list_all, list_any}
use Rattle.std.specs.Str.{bytes_eq}
use Rattle.std.proofs.lemmas.Bool.{and_parts, and_from, or_cases, or_left, or_right, or_parts, eqb-true, eq-eqb, not-true, not_from_false, both_ways, false_from_ne_true}
use Rattle.std.proofs.lemmas.Bool.Decides.{nat_tests}
use Rattle.std.proofs.lemmas.List.Sums.{sum_by-cons}
use Rattle.spec_data.specs.Lists.{has_number, are_distinct, is_among, are_different, look_up}
use Rattle.spec_terms.specs.Precondition.{Holding, names_of, total_of}
use Rattle.spec_calculus.specs.declared.step.Owner.TheVariants.{Party}
use Rattle.spec_calculus.specs.declared.parts.Deposit.{Deposit}
use Rattle.spec_calculus.specs.declared.parts.Advertised.{Advertised}
use Rattle.spec_calculus.specs.Same.{owner_eq}
use Rattle.spec_calculus.specs.Beginning.{is_advertised, fits_deposit, binds_each, are_bound_apart, bindings_of, is_there, are_there, and_then, numbers_of}
use Rattle.spec_calculus.specs.Moves.{deposit_at, is_live, value_at, owner_at, value_in}
use Rattle.spec_calculus.specs.Moves as moves
use Rattle.spec_calculus.specs.InOrder.{are_ascending}
use Rattle.theory_calculus.specs.Members.{Is_in}
use Rattle.theory_calculus.proofs.Members.{found, some_there}
use Rattle.theory_calculus.proofs.Names.{bytes-true, bytes_refl, in_named}

-- ---- what is kept of bindings

pub record IsBound (ds : List Deposit) (next : ℕ) (entries : List (List ℕ × Holding)) (bindings : List (List ℕ × ℕ)) : Type 0 where
  pub below : (x : List ℕ) (n : ℕ) → look_up x bindings ≡ Some n → n < next
  pub apart : (x y : List ℕ) (n : ℕ) → look_up x bindings ≡ Some n → look_up y bindings ≡ Some n → x ≡ y
  pub values : (x : List ℕ) (n : ℕ) (h : Holding) (d : Deposit) → look_up x bindings ≡ Some n → Is_in (x, h) entries
      → deposit_at ds n ≡ Some d → d.value ≡ h.value

-- a deposit of an earlier number was there before
abbrev pub IsEarlier : List Deposit → List Deposit → ℕ → Type 0
IsEarlier ds later next = (n : ℕ) (d : Deposit) → n < next → deposit_at later n ≡ Some d → deposit_at ds n ≡ Some d

pub bound_later : (ds later : List Deposit) (next more : ℕ) (entries : List (List ℕ × Holding)) (bindings : List (List ℕ × ℕ))
    → next ≤ more → IsEarlier ds later next → IsBound ds next entries bindings → IsBound later more entries bindings
bound_later ds later next more entries bindings l e b = record {
  below = λ x n h. let s = b.below x n h in omega (arith, s, l);
  apart = b.apart;
  values = λ x n h d k i f. b.values x n h d k i (e n d (b.below x n k) f);
}

pub bound_by_none : (ds : List Deposit) (next : ℕ) (entries : List (List ℕ × Holding)) → IsBound ds next entries []
bound_by_none ds next entries = record { below = λ x n h. cc; apart = λ x y n h k. cc; values = λ x n h d k i f. cc }

-- ---- deposits by their numbers

abbrev names : List Deposit → List ℕ
names ds = map (λ d. d.number) ds

above_in : (m : ℕ) (ds : List Deposit) (d : Deposit) → list_all (λ n. nat_lt m n) (names ds) ≡ true → Is_in d ds → m < d.number
above_in m [] d h i = absurd i
above_in m (x ∷ ds) d h (inl e) =
    let p = and_parts (nat_lt m x.number) (list_all (λ n. nat_lt m n) (names ds)) h in
    let s : m < x.number = grind (arith, nat_tests, p.0) in
    subst (λ (y : Deposit). m < y.number) (sym e) s
above_in m (x ∷ ds) d h (inr i) = above_in m ds d (and_parts (nat_lt m x.number) (list_all (λ n. nat_lt m n) (names ds)) h).1 i

pub below_in : (m : ℕ) (ds : List Deposit) (d : Deposit) → list_all (λ n. nat_lt n m) (names ds) ≡ true → Is_in d ds → d.number < m
below_in m [] d h i = absurd i
below_in m (x ∷ ds) d h (inl e) =
    let p = and_parts (nat_lt x.number m) (list_all (λ n. nat_lt n m) (names ds)) h in
    let s : x.number < m = grind (arith, nat_tests, p.0) in
    subst (λ (y : Deposit). y.number < m) (sym e) s
below_in m (x ∷ ds) d h (inr i) = below_in m ds d (and_parts (nat_lt x.number m) (list_all (λ n. nat_lt n m) (names ds)) h).1 i

-- among ascending numbers each deposit is found by its own
pub found_by : (ds : List Deposit) (d : Deposit) → are_ascending (names ds) ≡ true → Is_in d ds → deposit_at ds d.number ≡ Some d
found_by [] d h i = absurd i
found_by (x ∷ ds) d h (inl e) =
    let t : (x.number == d.number) ≡ true = eq-eqb x.number d.number (ap (λ (y : Deposit). y.number) (sym e)) in
    rw t (ap Some (sym e))
found_by (x ∷ ds) d h (inr i) =
    let p = and_parts (list_all (λ n. nat_lt x.number n) (names ds)) (are_ascending (names ds)) h in
    let l = above_in x.number ds d p.0 i in
    let t : (x.number == d.number) ≡ false = grind (arith, nat_tests, l) in
    rw t (found_by ds d p.1 i)

-- where all others have later numbers, earlier deposits are as they were
pub earlier : (ds later : List Deposit) (next : ℕ) → are_ascending (names ds) ≡ true
    → ((d : Deposit) → Is_in d later → Is_in d ds ⊎ (next ≤ d.number)) → IsEarlier ds later next
earlier ds later next h each n d l e =
    let f = found (λ (x : Deposit). x.number == n) later d e in
    let q : d.number ≡ n = eqb-true d.number n f.1 in
    elim (each d f.0) [
      | inl a ↦ subst (λ m. deposit_at ds m ≡ Some d) q (found_by ds d h a)
      | inr k ↦ absurd (omega (arith, q, l, k))
    ]

-- ---- bindings that fit

module _ (ds : List Deposit) where
  pub binds_live : (es : List (List ℕ × Holding)) (bs : List (List ℕ × ℕ)) (x : List ℕ) (n : ℕ) → binds_each ds es bs ≡ true
      → look_up x bs ≡ Some n → is_live ds n ≡ true
  binds_live [] [] x n h k = cc
  binds_live [] (b ∷ bs) x n h k = cc
  binds_live (e ∷ es) [] x n h k = cc
  binds_live (e ∷ es) (b ∷ bs) x n h k =
      let p = and_parts _ (binds_each ds es bs) h in
      let q = and_parts (bytes_eq (b.0) (e.0)) (fits_deposit ds (b.1) e.1.owner e.1.value) p.0 in
      let r = and_parts _ (value_at ds (b.1) == e.1.value) q.1 in
      let s = and_parts (is_live ds (b.1)) (owner_eq (owner_at ds (b.1)) (Party e.1.owner)) r.0 in
      by_test (bytes_eq (b.0) x) k s.0 (binds_live es bs x n p.1)
    where
      by_test : (t : Bool) → (if t then Some (b.1) else look_up x bs) ≡ Some n → is_live ds (b.1) ≡ true
          → (look_up x bs ≡ Some n → is_live ds n ≡ true) → is_live ds n ≡ true
      by_test true f s ih = let z : b.1 ≡ n = cc in subst (λ m. is_live ds m ≡ true) z s
      by_test false f s ih = ih f

  pub binds_value : (es : List (List ℕ × Holding)) (bs : List (List ℕ × ℕ)) (x : List ℕ) (n : ℕ) (h : Holding)
      → binds_each ds es bs ≡ true → are_different (names_of es) ≡ true → Is_in (x, h) es → look_up x bs ≡ Some n → value_at ds n ≡ h.value
  binds_value [] bs x n h t d i k = absurd i
  binds_value (e ∷ es) [] x n h t d i k = cc
  binds_value (e ∷ es) (b ∷ bs) x n h t d i k =
      let p = and_parts _ (binds_each ds es bs) t in
      let q = and_parts (bytes_eq (b.0) (e.0)) (fits_deposit ds (b.1) e.1.owner e.1.value) p.0 in
      let r = and_parts _ (value_at ds (b.1) == e.1.value) q.1 in
      let names_apart = and_parts (not (is_among (e.0) (names_of es))) (are_different (names_of es)) d in
      by_place i (bytes-true (b.0) (e.0) q.0) (eqb-true (value_at ds (b.1)) e.1.value r.1) (not-true _ names_apart.0)
      (λ j f. binds_value es bs x n h p.1 names_apart.1 j f)
    where
      by_place : Is_in (x, h) (e ∷ es) → b.0 ≡ e.0 → value_at ds (b.1) ≡ e.1.value → is_among (e.0) (names_of es) ≡ false
          → (Is_in (x, h) es → look_up x bs ≡ Some n → value_at ds n ≡ h.value) → value_at ds n ≡ h.value
      by_place (inl f) same v apart ih =
          let nx : x ≡ e.0 = ap (λ y. y.0) f in
          let t : bytes_eq (b.0) x ≡ true = subst (λ y. bytes_eq (b.0) y ≡ true) (same ∙ sym nx) (bytes_refl (b.0)) in
          let k' : Some (b.1) ≡ Some n = rw t at k in
          let z : b.1 ≡ n = cc in
          subst (λ m. value_at ds m ≡ h.value) z (v ∙ ap (λ y. (y.1).value) (sym f))
      by_place (inr j) same v apart ih =
          let f : bytes_eq (b.0) x ≡ false =
          false_from_ne_true _
          (λ t. both_ways _ apart (subst (λ y. is_among y (names_of es) ≡ true) (sym (bytes-true (b.0) x t) ∙ same) (in_named es (x, h) j))) in
          ih j (rw f at k)

looked_bound : (bs : List (List ℕ × ℕ)) (x : List ℕ) (n : ℕ) → look_up x bs ≡ Some n → list_any (λ c. c.1 == n) bs ≡ true
looked_bound [] x n h = cc
looked_bound (b ∷ bs) x n h = by_test (bytes_eq (b.0) x) h (looked_bound bs x n)
  where
    by_test : (t : Bool) → (if t then Some (b.1) else look_up x bs) ≡ Some n
        → (look_up x bs ≡ Some n → list_any (λ c. c.1 == n) bs ≡ true) → list_any (λ c. c.1 == n) (b ∷ bs) ≡ true
    by_test true f ih = or_left _ _ (eq-eqb (b.1) n (let z : b.1 ≡ n = cc in z))
    by_test false f ih = or_right (b.1 == n) _ (ih f)

-- names bound to one number are one
pub bound_once : (bs : List (List ℕ × ℕ)) (x y : List ℕ) (n : ℕ) → are_bound_apart bs ≡ true → look_up x bs ≡ Some n
    → look_up y bs ≡ Some n → x ≡ y
bound_once [] x y n h k l = cc
bound_once (b ∷ bs) x y n h k l =
    let p = and_parts (not (list_any (λ c. c.1 == b.1) bs)) (are_bound_apart bs) h in
    by_tests (bytes_eq (b.0) x) (bytes_eq (b.0) y) refl refl (not-true _ p.0) k l (bound_once bs x y n p.1)
  where
    not_later : (z : List ℕ) → list_any (λ c. c.1 == b.1) bs ≡ false → b.1 ≡ n → look_up z bs ≡ Some n → ⊥
    not_later z a e f = both_ways _ a (subst (λ m. list_any (λ c. c.1 == m) bs ≡ true) (sym e) (looked_bound bs z n f))

    by_tests : (t u : Bool) → bytes_eq (b.0) x ≡ t → bytes_eq (b.0) y ≡ u → list_any (λ c. c.1 == b.1) bs ≡ false
        → (if t then Some (b.1) else look_up x bs) ≡ Some n → (if u then Some (b.1) else look_up y bs) ≡ Some n
        → (look_up x bs ≡ Some n → look_up y bs ≡ Some n → x ≡ y) → x ≡ y
    by_tests true true e f a k l ih = sym (bytes-true (b.0) x e) ∙ bytes-true (b.0) y f
    by_tests true false e f a k l ih = absurd (not_later y a (let z : b.1 ≡ n = cc in z) l)
    by_tests false true e f a k l ih = absurd (not_later x a (let z : b.1 ≡ n = cc in z) k)
    by_tests false false e f a k l ih = ih k l

-- bindings that fit are kept well
pub bound_now : (ds : List Deposit) (next : ℕ) (es : List (List ℕ × Holding)) (bs : List (List ℕ × ℕ))
    → list_all (λ n. nat_lt n next) (names ds) ≡ true
    → (binds_each ds es bs && are_bound_apart bs) ≡ true → are_different (names_of es) ≡ true → IsBound ds next es bs
bound_now ds next es bs low fit d =
    let p = and_parts (binds_each ds es bs) (are_bound_apart bs) fit in
    record {
      below = λ x n h. live_below n (binds_live ds es bs x n p.0 h);
      apart = λ x y n h k. bound_once bs x y n p.1 h k;
      values = λ x n h c k i f. (let v = binds_value ds es bs x n h p.0 d i k in let w : value_at ds n
          ≡ c.value = ap moves.value_or_zero f in sym w ∙ v);
    }
  where
    live_below : (n : ℕ) → is_live ds n ≡ true → n < next
    live_below n l =
        let c = some_there (deposit_at ds n) l in
        let f = found (λ (x : Deposit). x.number == n) ds c.0 c.1 in
        subst (λ m. m < next) (eqb-true c.0.number n f.1) (below_in next ds c.0 low f.0)

-- after one more is advertised
pub bindings_more : (xs : List Advertised) (k j : ℕ) (b : List (List ℕ × ℕ)) → is_advertised xs k ≡ false
    → bindings_of (xs ++ record { contract = k; bindings = b } ∷ []) j ≡ (if k == j then b else bindings_of xs j)
bindings_more [] k j b h = refl
bindings_more (x ∷ xs) k j b h = by_tests (x.contract == j) (k == j) refl refl h (bindings_more xs k j b)
  where
    by_tests : (t u : Bool) → (x.contract == j) ≡ t → (k == j) ≡ u → ((x.contract == k) || is_advertised xs k) ≡ false
        → (is_advertised xs k ≡ false → bindings_of (xs ++ record { contract = k; bindings = b } ∷ []) j
        ≡ (if k == j then b else bindings_of xs j))
        → (if t then x.bindings else bindings_of (xs ++ record { contract = k; bindings = b } ∷ []) j)
        ≡ (if u then b else (if t then x.bindings else bindings_of xs j))
    by_tests true true e f a ih =
        let p : x.contract ≡ k = eqb-true x.contract j e ∙ sym (eqb-true k j f) in
        let q : ((x.contract == k) || is_advertised xs k) ≡ true = or_left _ _ (eq-eqb x.contract k p) in
        absurd (both_ways _ a q)
    by_tests true false e f a ih = refl
    by_tests false true e f a ih = rw f at (ih (or_parts (x.contract == k) (is_advertised xs k) a).1)
    by_tests false false e f a ih = rw f at (ih (or_parts (x.contract == k) (is_advertised xs k) a).1)

-- ---- the deposits of names

module _ (ds : List Deposit) (bs : List (List ℕ × ℕ)) where
  number_named : (xs : List (List ℕ)) (n : ℕ) → has_number n (numbers_of bs xs) ≡ true
      → (y : List ℕ) × (is_among y xs ≡ true) × (look_up y bs ≡ Some n)
  number_named [] n h = cc
  number_named (x ∷ xs) n h = by_bound (look_up x bs) refl h (number_named xs n)
    where
      by_bound : (o : Option ℕ) → look_up x bs ≡ o → has_number n (and_then o (numbers_of bs xs)) ≡ true
          → (has_number n (numbers_of bs xs) ≡ true → (y : List ℕ) × (is_among y xs ≡ true) × (look_up y bs ≡ Some n))
          → (y : List ℕ) × (is_among y (x ∷ xs) ≡ true) × (look_up y bs ≡ Some n)
      by_bound None e q ih = let r = ih q in (r.0, or_right (bytes_eq x r.0) _ r.1, r.2)
      by_bound (Some m) e q ih = elim (or_cases (m == n) (has_number n (numbers_of bs xs)) q) [
        | inl a ↦ (x, or_left _ _ (bytes_refl x), subst (λ k. look_up x bs ≡ Some k) (eqb-true m n a) e)
        | inr b ↦ (let r = ih b in (r.0, or_right (bytes_eq x r.0) _ r.1, r.2))
      ]

  pub numbers_distinct : (xs : List (List ℕ)) → ((x y : List ℕ) (n : ℕ) → look_up x bs ≡ Some n → look_up y bs ≡ Some n → x ≡ y)
      → are_different xs ≡ true → are_distinct (numbers_of bs xs) ≡ true
  numbers_distinct [] apart d = refl
  numbers_distinct (x ∷ xs) apart d =
      let p = and_parts (not (is_among x xs)) (are_different xs) d in
      by_bound (look_up x bs) refl (not-true _ p.0) (numbers_distinct xs apart p.1)
    where
      by_bound : (o : Option ℕ) → look_up x bs ≡ o → is_among x xs ≡ false → are_distinct (numbers_of bs xs) ≡ true
          → are_distinct (and_then o (numbers_of bs xs)) ≡ true
      by_bound None e a ih = ih
      by_bound (Some m) e a ih =
          and_from _ _ (not_from_false _ (false_from_ne_true _
          (λ t. let r = number_named xs m t in both_ways _ a (subst (λ z. is_among z xs ≡ true) (sym (apart x r.0 m e r.2)) r.1)))) ih

  -- what names are bound to is worth what is said of each
  pub names_value : (worth : List ℕ → ℕ) (xs : List (List ℕ))
      → ((x : List ℕ) (n : ℕ) (d : Deposit) → is_among x xs ≡ true → look_up x bs ≡ Some n → deposit_at ds n ≡ Some d → d.value ≡ worth x)
      → are_there ds bs xs ≡ true → value_in ds (numbers_of bs xs) ≡ sum_by worth xs
  names_value worth [] each t = refl
  names_value worth (x ∷ xs) each t =
      let p = and_parts (is_there ds (look_up x bs)) (are_there ds bs xs) t in
      by_bound (look_up x bs) refl p.0 (names_value worth xs (λ y n d a. each y n d (or_right (bytes_eq x y) _ a)) p.1)
    where
      by_bound : (o : Option ℕ) → look_up x bs ≡ o → is_there ds o ≡ true → value_in ds (numbers_of bs xs) ≡ sum_by worth xs
          → value_in ds (and_then o (numbers_of bs xs)) ≡ sum_by worth (x ∷ xs)
      by_bound None e h ih = cc
      by_bound (Some n) e h ih =
          let c = some_there (deposit_at ds n) h in
          let v : value_at ds n ≡ worth x = ap moves.value_or_zero c.1 ∙ each x n c.0 (or_left _ _ (bytes_refl x)) e c.1 in
          sum_by-cons (λ m. value_at ds m) n (numbers_of bs xs) ∙ (λ i. v i + ih i) ∙ sym (sum_by-cons worth x xs)

  -- the same, of deposits with their values
  pub entries_value : (es : List (List ℕ × Holding))
      → ((x : List ℕ) (n : ℕ) (h : Holding) (d : Deposit) → Is_in (x, h) es → look_up x bs ≡ Some n → deposit_at ds n ≡ Some d → d.value
      ≡ h.value)
      → are_there ds bs (names_of es) ≡ true → value_in ds (numbers_of bs (names_of es)) ≡ total_of es
  entries_value [] each t = refl
  entries_value (e ∷ es) each t =
      let p = and_parts (is_there ds (look_up (e.0) bs)) (are_there ds bs (names_of es)) t in
      by_bound (look_up (e.0) bs) refl p.0 (entries_value es (λ x n h d i. each x n h d (inr i)) p.1)
    where
      by_bound : (o : Option ℕ) → look_up (e.0) bs ≡ o → is_there ds o ≡ true → value_in ds (numbers_of bs (names_of es)) ≡ total_of es
          → value_in ds (and_then o (numbers_of bs (names_of es))) ≡ total_of (e ∷ es)
      by_bound None f h ih = cc
      by_bound (Some n) f h ih =
          let c = some_there (deposit_at ds n) h in
          let v : value_at ds n ≡ e.1.value = ap moves.value_or_zero c.1 ∙ each (e.0) n (e.1) c.0 (inl refl) f c.1 in
          sum_by-cons (λ m. value_at ds m) n (numbers_of bs (names_of es)) ∙ (λ i. v i + ih i)
