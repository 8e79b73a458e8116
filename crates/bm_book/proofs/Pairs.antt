-- The entries of a book as pairs, with one more and with less.
use Rattle.std.proofs.Common.{◌≡◌, ℕ, ◌+◌, zero, suc, List, [], ◌∷◌, ◌++◌, length, map, take, Some, Bool, true, false, ◌&&◌, ◌||◌, cond, refl, sym, ap, ◌∙◌, arith}
use Rattle.std.proofs.lemmas.List.{length-append}
use Rattle.std.specs.Prelude.{◌≢◌, ◌==◌, drop, slice_get}
use Rattle.std.specs.List.{list_all, list_any}
use Rattle.std.specs.Str.{bytes_eq}
use Rattle.std.proofs.lemmas.Slice.Eq.{bytes_eq-Decides}
use Rattle.std.proofs.lemmas.Bool.{and_parts}
use Rattle.spec_data.specs.Lists.{is_among}
use Rattle.spec_bitcoin.specs.Keys.{has_signed}
use Rattle.bm_hash_strings.specs.Placed.{stands_at}
use Rattle.bm_hash_strings.proofs.Joined.{same_behind}
use Rattle.bm_book.specs.Entries.{pair_of, pairs_of, are_entries}

sized_as : (n m : ℕ) → n == m ≡ true → n ≡ m
sized_as n m h = grind arith

same_size : (n m : ℕ) → n ≡ m → n == m ≡ true
same_size n m h = grind arith

-- ---- one entry

module _ (key digest : List ℕ) (size : length key ≡ 33) where
  take_key : take 33 (key ++ digest) ≡ key
  take_key = ap (λ n. take n (key ++ digest)) (sym size) ∙ take_prefix key digest
    where
      take_prefix : (xs ys : List ℕ) → take (length xs) (xs ++ ys) ≡ xs
      take_prefix [] ys = refl
      take_prefix (x ∷ xs) ys = ap (λ l. x ∷ l) (take_prefix xs ys)

  drop_key : drop 33 (key ++ digest) ≡ digest
  drop_key = ap (λ n. drop n (key ++ digest)) (sym size) ∙ drop_prefix key digest
    where
      drop_prefix : (xs ys : List ℕ) → drop (length xs) (xs ++ ys) ≡ ys
      drop_prefix [] ys = refl
      drop_prefix (x ∷ xs) ys = drop_prefix xs ys

  -- an entry is the pair of its key and digest
  pair-of-entry : pair_of (key ++ digest) ≡ (key, digest)
  pair-of-entry = ap (λ k. (k, drop 33 (key ++ digest))) take_key ∙ ap (λ d. (key, d)) drop_key

join : (n : ℕ) (xs : List ℕ) → take n xs ++ drop n xs ≡ xs
join zero xs = refl
join (suc n) [] = refl
join (suc n) (x ∷ xs) = ap (λ l. x ∷ l) (join n xs)

length_prefix : (n m : ℕ) (xs : List ℕ) → length xs ≡ n + m → length (take n xs) ≡ n
length_prefix zero m xs e = refl
length_prefix (suc n) m [] e = absurd (omega (arith, e))
length_prefix (suc n) m (x ∷ xs) e = let e' : length xs ≡ n + m = omega (arith, e) in ap suc (length_prefix n m xs e')

-- whether an entry is the one of a key and a digest
is_entry : (entry key digest : List ℕ) → length entry ≡ 65 → length key ≡ 33
    → bytes_eq entry (key ++ digest) ≡ (bytes_eq (take 33 entry) key && bytes_eq (drop 33 entry) digest)
is_entry entry key digest long size =
    ap (λ l. bytes_eq l (key ++ digest)) (sym (join 33 entry))
    ∙ same_behind (take 33 entry) key (drop 33 entry) digest (length_prefix 33 32 entry long ∙ sym size)

-- ---- what has signed

-- an entry stands in the index where its key has signed its digest
pub is_signed : (entries : List (List ℕ)) (key digest : List ℕ) → are_entries entries ≡ true → length key ≡ 33
    → is_among (key ++ digest) entries ≡ has_signed (pairs_of entries) key digest
is_signed [] key digest all size = refl
is_signed (e ∷ es) key digest all size =
    let parts = and_parts (length e == 65) (are_entries es) all in
    ap (λ b. b || is_among (key ++ digest) es) (is_entry e key digest (sized_as (length e) 65 parts.0) size)
    ∙ ap (λ b. (bytes_eq (take 33 e) key && bytes_eq (drop 33 e) digest) || b) (is_signed es key digest parts.1 size)

-- a string that stands at some place is there
pub stands_there : (entries : List (List ℕ)) (n : ℕ) (q : List ℕ) → stands_at entries n q ≡ true → is_among q entries ≡ true
stands_there [] n q here = cc
stands_there (e ∷ es) zero q here = rw here refl
stands_there (e ∷ es) (suc n) q here = or_later (bytes_eq e q) _ (stands_there es n q here)
  where
    or_later : (b c : Bool) → c ≡ true → b || c ≡ true
    or_later true c h = refl
    or_later false c h = h

-- a key of another size has signed nothing
pub unsized_unsigned : (entries : List (List ℕ)) (key digest : List ℕ) → are_entries entries ≡ true → length key ≢ 33
    → has_signed (pairs_of entries) key digest ≡ false
unsized_unsigned [] key digest all other = refl
unsized_unsigned (e ∷ es) key digest all other =
    let parts = and_parts (length e == 65) (are_entries es) all in
    elim (bytes_eq (take 33 e) key) as (λ b. bytes_eq (take 33 e) key ≡ b
    → (b && bytes_eq (drop 33 e) digest) || has_signed (pairs_of es) key digest ≡ false) [
      | true ↦ λ t.
          absurd (other (sym (ap length ((bytes_eq-Decides (take 33 e) key).0 t)) ∙ length_prefix 33 32 e (sized_as (length e) 65 parts.0)))
      | false ↦ λ t. unsized_unsigned es key digest parts.1 other
    ] refl

-- what stands at some place is signed again without a change
pub signed_again : (entries : List (List ℕ)) (n : ℕ) (key digest entry : List ℕ) → are_entries entries ≡ true → length key ≡ 33
    → entry ≡ key ++ digest → stands_at entries n entry ≡ true
    → pairs_of entries ≡ cond (has_signed (pairs_of entries) key digest) (pairs_of entries) (pairs_of entries ++ (key, digest) ∷ [])
signed_again entries n key digest entry all size is here =
    ap (λ b. cond b (pairs_of entries) (pairs_of entries ++ (key, digest) ∷ []))
    (sym (sym (is_signed entries key digest all size) ∙ ap (λ e. is_among e entries) (sym is) ∙ stands_there entries n entry here))

-- ---- one more, and less

pub pairs_of-length : (entries : List (List ℕ)) → length (pairs_of entries) ≡ length entries
pairs_of-length [] = refl
pairs_of-length (e ∷ es) = ap suc (pairs_of-length es)

pub pairs_of-take : (n : ℕ) (entries : List (List ℕ)) → pairs_of (take n entries) ≡ take n (pairs_of entries)
pairs_of-take zero entries = refl
pairs_of-take (suc n) [] = refl
pairs_of-take (suc n) (e ∷ es) = ap (λ ps. pair_of e ∷ ps) (pairs_of-take n es)

pairs_of-push : (entries : List (List ℕ)) (e : List ℕ) → pairs_of (entries ++ e ∷ []) ≡ pairs_of entries ++ pair_of e ∷ []
pairs_of-push [] e = refl
pairs_of-push (x ∷ xs) e = ap (λ ps. pair_of x ∷ ps) (pairs_of-push xs e)

-- what is added once is a pair more, unless its key has signed its digest
pub pairs_of-once : (entries : List (List ℕ)) (key digest : List ℕ) → are_entries entries ≡ true → length key ≡ 33
    → pairs_of (cond (is_among (key ++ digest) entries) entries (entries ++ (key ++ digest) ∷ []))
    ≡ cond (has_signed (pairs_of entries) key digest) (pairs_of entries) (pairs_of entries ++ (key, digest) ∷ [])
pairs_of-once entries key digest all size =
    by (is_among (key ++ digest) entries)
    ∙ ap (λ b. cond b (pairs_of entries) (pairs_of entries ++ (key, digest) ∷ [])) (is_signed entries key digest all size)
  where
    by : (b : Bool) → pairs_of (cond b entries (entries ++ (key ++ digest) ∷ []))
        ≡ cond b (pairs_of entries) (pairs_of entries ++ (key, digest) ∷ [])
    by true = refl
    by false = pairs_of-push entries (key ++ digest) ∙ ap (λ p. pairs_of entries ++ p ∷ []) (pair-of-entry key digest size)

are_entries-push : (entries : List (List ℕ)) (e : List ℕ) → are_entries entries ≡ true → length e ≡ 65 → are_entries (entries ++ e ∷ []) ≡ true
are_entries-push [] e all size = let here = same_size (length e) 65 size in rw here refl
are_entries-push (x ∷ xs) e all size =
    let parts = and_parts (length x == 65) (are_entries xs) all in
    rw parts.0 (are_entries-push xs e parts.1 size)

pub are_entries-once : (entries : List (List ℕ)) (key digest : List ℕ) → are_entries entries ≡ true → length key ≡ 33 → length digest ≡ 32
    → are_entries (cond (is_among (key ++ digest) entries) entries (entries ++ (key ++ digest) ∷ [])) ≡ true
are_entries-once entries key digest all size long = by (is_among (key ++ digest) entries)
  where
    whole : length (key ++ digest) ≡ 65
    whole = let e = length-append key digest in omega (arith, e, size, long)

    by : (b : Bool) → are_entries (cond b entries (entries ++ (key ++ digest) ∷ [])) ≡ true
    by true = all
    by false = are_entries-push entries (key ++ digest) all whole

pub are_entries-take : (n : ℕ) (entries : List (List ℕ)) → are_entries entries ≡ true → are_entries (take n entries) ≡ true
are_entries-take zero entries all = refl
are_entries-take (suc n) [] all = refl
are_entries-take (suc n) (e ∷ es) all =
    let parts = and_parts (length e == 65) (are_entries es) all in
    rw parts.0 (are_entries-take n es parts.1)
