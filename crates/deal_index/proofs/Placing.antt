-- Byte strings that all differ, and the item at the place of its key.
use Rattle.std.proofs.Common.{◌≡◌, ℕ, ◌+◌, zero, suc, List, [], ◌∷◌, ◌++◌, map, Bool, true, false, ◌&&◌, ◌||◌, not, cond, Option, Some, None}
use Rattle.std.proofs.Common.{refl, sym, ap, subst, ◌∙◌, arith}
use Rattle.std.specs.Prelude.{slice_get}
use Rattle.std.specs.Cmp.{partial_equiv_from_equiv}
use Rattle.std.specs.Cmp.Lexicographic.{nat_list_eq_equiv}
use Rattle.std.specs.List.{find}
use Rattle.std.specs.Option.{option_map, option_and_then}
use Rattle.std.specs.Str.{bytes_eq}
use Rattle.std.proofs.lemmas.Bool.{and_parts}
use Rattle.std.proofs.lemmas.Slice.Eq.{bytes_eq-Decides}
use Rattle.spec_data.specs.Lists.{is_among, are_different}
use Rattle.bm_hash_strings.specs.Placed.{first_place, stands_at}

-- ---- one string more

either_last : (a b c : Bool) → (a || (b || c)) ≡ ((a || b) || c)
either_last true b c = refl
either_last false b c = refl

among_more : (q key : List ℕ) (keys : List (List ℕ)) → is_among q (keys ++ key ∷ []) ≡ (is_among q keys || bytes_eq key q)
among_more q key [] = by (bytes_eq key q)
  where
    by : (b : Bool) → (b || false) ≡ b
    by true = refl
    by false = refl
among_more q key (k ∷ keys) =
    ap (λ b. bytes_eq k q || b) (among_more q key keys) ∙ either_last (bytes_eq k q) (is_among q keys) (bytes_eq key q)

-- the strings all differ with one more where they did and it isn't among them
different_more : (keys : List (List ℕ)) (key : List ℕ)
    → are_different (keys ++ key ∷ []) ≡ (are_different keys && not (is_among key keys))
different_more [] key = refl
different_more (k ∷ keys) key =
    ap (λ b. not b && are_different (keys ++ key ∷ [])) (among_more k key keys)
    ∙ ap (λ b. not (is_among k keys || bytes_eq key k) && b) (different_more keys key)
    ∙ ap (λ b. not (is_among k keys || b) && (are_different keys && not (is_among key keys))) (same_turned key k)
    ∙ moved (is_among k keys) (bytes_eq k key) (are_different keys) (is_among key keys)
  where
    same_turned : (x y : List ℕ) → bytes_eq x y ≡ bytes_eq y x
    same_turned = (partial_equiv_from_equiv nat_list_eq_equiv).symm

    moved : (a b c d : Bool) → (not (a || b) && (c && not d)) ≡ ((not a && c) && not (b || d))
    moved true b c d = refl
    moved false true true d = refl
    moved false true false d = refl
    moved false false c d = refl

-- what was known of the strings, and of the new one
pub known_different : (keys next : List (List ℕ)) (key : List ℕ) (apart new : Bool) → apart ≡ are_different keys → next ≡ keys ++ key ∷ []
    → new ≡ not (is_among key keys) → (apart && new) ≡ are_different next
known_different keys next key apart new known more told =
    ap (λ b. b && new) known ∙ ap (λ b. are_different keys && b) told ∙ sym (different_more keys key) ∙ ap are_different (sym more)

-- ---- a string that stands at a place

stands_among : (keys : List (List ℕ)) (place : ℕ) (q : List ℕ) → stands_at keys place q ≡ true → is_among q keys ≡ true
stands_among [] place q here = cc
stands_among (k ∷ keys) zero q here = rw here refl
stands_among (k ∷ keys) (suc place) q here = or_later (bytes_eq k q) (is_among q keys) (stands_among keys place q here)
  where
    or_later : (b c : Bool) → c ≡ true → (b || c) ≡ true
    or_later true c h = refl
    or_later false c h = h

-- among strings that all differ it stands there first
pub stands_first : (keys : List (List ℕ)) (place : ℕ) (q : List ℕ) → are_different keys ≡ true → stands_at keys place q ≡ true
    → Some place ≡ first_place keys q
stands_first [] place q apart here = cc
stands_first (k ∷ keys) zero q apart here = rw here refl
stands_first (k ∷ keys) (suc place) q apart here =
    let parts = and_parts (not (is_among k keys)) (are_different keys) apart in
    by_test (bytes_eq k q) refl parts.0 (stands_first keys place q parts.1 here)
  where
    by_test : (b : Bool) → bytes_eq k q ≡ b → not (is_among k keys) ≡ true → Some place ≡ first_place keys q
        → Some (suc place) ≡ cond b (Some 0) (option_map (λ n. n + 1) (first_place keys q))
    by_test true h absent later =
        let there : is_among k keys ≡ true =
        subst (λ l. is_among l keys ≡ true) (sym ((bytes_eq-Decides k q).0 h)) (stands_among keys place q here) in
        absurd cc
    by_test false h absent later =
        let next : suc place ≡ place + 1 = omega arith in
        ap Some next ∙ ap (option_map (λ n. n + 1)) later

-- ---- items

-- what stands at the next place, with one item before it
pub get_behind : {T : Type 0} (x : T) (xs : List T) (o : Option ℕ)
    → option_and_then (slice_get (x ∷ xs)) (option_map (λ n. n + 1) o) ≡ option_and_then (slice_get xs) o
get_behind x xs None = refl
get_behind x xs (Some n) = let e : n + 1 ≡ suc n = omega arith in ap (slice_get (x ∷ xs)) e

module _ {T : Type 0} (key : T → List ℕ) (q : List ℕ) where
  found_place : (xs : List T) → option_and_then (slice_get xs) (first_place (map key xs) q) ≡ find (λ x. bytes_eq (key x) q) xs
  found_place [] = refl
  found_place (x ∷ xs) = by_test (bytes_eq (key x) q) (get_behind x xs (first_place (map key xs) q) ∙ found_place xs)
    where
      by_test : (b : Bool)
          → option_and_then (slice_get (x ∷ xs)) (option_map (λ n. n + 1) (first_place (map key xs) q)) ≡ find (λ x. bytes_eq (key x) q) xs
          → option_and_then (slice_get (x ∷ xs)) (cond b (Some 0) (option_map (λ n. n + 1) (first_place (map key xs) q)))
          ≡ cond b (Some x) (find (λ x. bytes_eq (key x) q) xs)
      by_test true later = refl
      by_test false later = later

  -- the item at the place of its key
  pub found_item : (xs : List T) (keys : List (List ℕ)) → keys ≡ map key xs → (o : Option ℕ) → o ≡ first_place keys q
      → option_and_then (slice_get xs) o ≡ find (λ x. bytes_eq (key x) q) xs
  found_item xs keys of o here = ap (option_and_then (slice_get xs)) (here ∙ ap (λ ks. first_place ks q) of) ∙ found_place xs
