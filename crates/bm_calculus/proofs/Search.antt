-- What a binary search finds in a list by ascending numbers is what a walk over the whole list finds, and takes out.
use Rattle.std.proofs.Common.{◌≡◌, ℕ, zero, suc, ◌<◌, ◌≤◌, ◌≢◌, List, [], ◌∷◌, length, map, get_or, true, false, None, Some, Result}
use Rattle.std.proofs.Common.{Ok, Err, IfOk, IfErr, slice_get, refl, sym, ap, arith}
use Rattle.std.specs.Prelude.{◌==◌, not, nat_lt, find, filter, Bool}
use Rattle.std.specs.List.{list_all, remove}
use Rattle.std.specs.List.Sorted.{IsSearchInRange, IsBinarySearchResult, IsNonDecreasingBy}
use Rattle.std.specs.Ordering.{nat_cmp, ordering_index}
use Rattle.std.proofs.lemmas.Bool.{and_parts}
use Rattle.std.proofs.lemmas.Bool.Decides.{nat_tests}
use Rattle.std.proofs.lemmas.Cmp.{ranked}
use Rattle.std.specs.Option.{option_map}
use Rattle.spec_calculus.specs.InOrder.{are_ascending}

module _ {X : Type 0} (name : X → ℕ) where
  all_at : (n : ℕ) (xs : List X) (j : ℕ) (d : X) → list_all (λ m. nat_lt n m) (map name xs) ≡ true → j < length xs
      → n < name (get_or xs j d)
  all_at n [] j d h l = absurd (omega (arith, l))
  all_at n (x ∷ xs) zero d h l =
      let p = and_parts (nat_lt n (name x)) (list_all (λ m. nat_lt n m) (map name xs)) h in grind (arith, nat_tests, p.0)
  all_at n (x ∷ xs) (suc j) d h l =
      let p = and_parts (nat_lt n (name x)) (list_all (λ m. nat_lt n m) (map name xs)) h in all_at n xs j d p.1 (omega (arith, l))

  -- an earlier one has a smaller number
  ascends_at : (xs : List X) (i j : ℕ) (d : X) → are_ascending (map name xs) ≡ true → i < j → j < length xs
      → name (get_or xs i d) < name (get_or xs j d)
  ascends_at [] i j d h l k = absurd (omega (arith, k))
  ascends_at (x ∷ xs) i zero d h l k = absurd (omega (arith, l))
  ascends_at (x ∷ xs) zero (suc j) d h l k =
      let p = and_parts (list_all (λ m. nat_lt (name x) m) (map name xs)) (are_ascending (map name xs)) h in
      all_at (name x) xs j d p.0 (omega (arith, k))
  ascends_at (x ∷ xs) (suc i) (suc j) d h l k =
      let p = and_parts (list_all (λ m. nat_lt (name x) m) (map name xs)) (are_ascending (map name xs)) h in
      ascends_at xs i j d p.1 (omega (arith, l)) (omega (arith, k))

  -- a number that none has isn't found
  find_absent : (n : ℕ) (xs : List X) → ((j : ℕ) (d : X) → j < length xs → name (get_or xs j d) ≢ n) → find (λ x. name x == n) xs ≡ None
  find_absent n [] h = refl
  find_absent n (x ∷ xs) h =
      let here : (name x == n) ≡ false = (let differs = h 0 x (omega arith) in grind (arith, nat_tests, differs)) in
      rw here (find_absent n xs (λ j d l. h (suc j) d (omega (arith, l))))

  -- the one that has the number is found
  find_present : (n : ℕ) (xs : List X) (i : ℕ) (d : X) → are_ascending (map name xs) ≡ true → i < length xs → name (get_or xs i d) ≡ n
      → slice_get xs i ≡ find (λ x. name x == n) xs
  find_present n [] i d h l e = absurd (omega (arith, l))
  find_present n (x ∷ xs) zero d h l e =
      let here : (name x == n) ≡ true = grind (arith, nat_tests, e) in rw here refl
  find_present n (x ∷ xs) (suc i) d h l e =
      let p = and_parts (list_all (λ m. nat_lt (name x) m) (map name xs)) (are_ascending (map name xs)) h in
      let less = all_at (name x) xs i d p.0 (omega (arith, l)) in
      let here : (name x == n) ≡ false = grind (arith, nat_tests, less, e) in
      rw here (find_present n xs i d p.1 (omega (arith, l)) e)

  -- where all have other numbers, each stays
  each_stays : (n : ℕ) (stays : X → Bool) (xs : List X) → ((x : X) → stays x ≡ not (name x == n))
      → ((j : ℕ) (d : X) → j < length xs → name (get_or xs j d) ≢ n) → xs ≡ filter stays xs
  each_stays n stays [] same h = refl
  each_stays n stays (x ∷ xs) same h =
      let here : (name x == n) ≡ false = (let differs = h 0 x (omega arith) in grind (arith, nat_tests, differs)) in
      let ih = each_stays n stays xs same (λ j d l. h (suc j) d (omega (arith, l))) in
      rw (same x, here) (ap (λ ys. x ∷ ys) ih)

  -- the one that has the number goes, and all others stay
  one_goes : (n : ℕ) (stays : X → Bool) (xs : List X) (i : ℕ) (d : X) → ((x : X) → stays x ≡ not (name x == n))
      → are_ascending (map name xs) ≡ true → i < length xs → name (get_or xs i d) ≡ n → remove xs i ≡ filter stays xs
  one_goes n stays [] i d same h l e = absurd (omega (arith, l))
  one_goes n stays (x ∷ xs) zero d same h l e =
      let p = and_parts (list_all (λ m. nat_lt (name x) m) (map name xs)) (are_ascending (map name xs)) h in
      let here : (name x == n) ≡ true = grind (arith, nat_tests, e) in
      let beyond : (j : ℕ) (y : X) → j < length xs → name (get_or xs j y) ≢ n =
      λ j y k q. (let more = all_at (name x) xs j y p.0 k in omega (arith, more, q, e)) in
      rw (same x, here) (each_stays n stays xs same beyond)
  one_goes n stays (x ∷ xs) (suc i) d same h l e =
      let p = and_parts (list_all (λ m. nat_lt (name x) m) (map name xs)) (are_ascending (map name xs)) h in
      let less = all_at (name x) xs i d p.0 (omega (arith, l)) in
      let here : (name x == n) ≡ false = grind (arith, nat_tests, less, e) in
      rw (same x, here) (ap (λ ys. x ∷ ys) (one_goes n stays xs i d same p.1 (omega (arith, l)) e))

  -- the comparisons with a number rise along the list, as a binary search asks
  comparisons_rise : (n : ℕ) (xs : List X) → are_ascending (map name xs) ≡ true
      → IsNonDecreasingBy (λ x. ordering_index (nat_cmp (name x) n)) xs
  comparisons_rise n xs h i j d le in_range =
      let rise : name (get_or xs i d) ≤ name (get_or xs j d) =
      grind (arith, ascends_at xs i j d h, λ (same : i ≡ j). ap (λ k. name (get_or xs k d)) same) in
      grind (arith, nat_tests)

  pub searched : (n : ℕ) (stays : X → Bool) (xs : List X) (r : Result ℕ ℕ) → ((x : X) → stays x ≡ not (name x == n))
      → are_ascending (map name xs) ≡ true → IsSearchInRange r (length xs) → IsBinarySearchResult (λ x. nat_cmp (name x) n) xs r
      → record {
        found : IfOk r (λ i. slice_get xs i ≡ find (λ x. name x == n) xs);
        absent : IfErr r (λ i. find (λ x. name x == n) xs ≡ None);
        within : IfOk r (λ i. i < length xs);
        taken : IfOk r (λ i. remove xs i ≡ filter stays xs);
        kept : IfErr r (λ i. xs ≡ filter stays xs);
      }
  searched n stays [] (Ok at) same h in_range equal = absurd (omega (arith, in_range))
  searched n stays (x ∷ xs) (Ok at) same h in_range equal =
      let named = ranked (name (get_or (x ∷ xs) at x)) n _ (sym (equal x)) in
      record {
        found = find_present n (x ∷ xs) at x h in_range named;
        absent = tt;
        within = in_range;
        taken = one_goes n stays (x ∷ xs) at x same h in_range named;
        kept = tt;
      }
  searched n stays xs (Err at) same h in_range parted =
      record { found = tt; absent = find_absent n xs none; within = tt; taken = tt; kept = each_stays n stays xs same none }
    where
      none : (j : ℕ) (d : X) → j < length xs → name (get_or xs j d) ≢ n
      none j d l same =
          let sides = parted (comparisons_rise n xs h) in
          let before : j < at → name (get_or xs j d) < n = λ k. ranked (name (get_or xs j d)) n _ (sym (sides.0 j d (omega arith) k)) in
          let beyond : at ≤ j → n < name (get_or xs j d) = λ k. ranked (name (get_or xs j d)) n _ (sym (sides.1 j d k l)) in
          grind (arith, before, beyond, same)

  named_at : (n : ℕ) (xs : List X) (i : ℕ) (d : X) → option_map name (slice_get xs i) ≡ Some n
      → (i < length xs) × (name (get_or xs i d) ≡ n)
  named_at n [] i d e = cc
  named_at n (x ∷ xs) zero d e = (omega arith, cc)
  named_at n (x ∷ xs) (suc i) d e = let p = named_at n xs i d e in (let l = p.0 in omega (arith, l), p.1)

  -- one that has the number is the one that a walk finds, wherever it was looked for
  pub seen : (n : ℕ) (stays : X → Bool) (xs : List X) (i : ℕ) → ((x : X) → stays x ≡ not (name x == n))
      → are_ascending (map name xs) ≡ true → option_map name (slice_get xs i) ≡ Some n
      → (slice_get xs i ≡ find (λ x. name x == n) xs) × (i < length xs) × (remove xs i ≡ filter stays xs)
  seen n stays [] i same h e = cc
  seen n stays (x ∷ xs) i same h e =
      let p = named_at n (x ∷ xs) i x e in
      (find_present n (x ∷ xs) i x h p.0 p.1, p.0, one_goes n stays (x ∷ xs) i x same h p.0 p.1)
