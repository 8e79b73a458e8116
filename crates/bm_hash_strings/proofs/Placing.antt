-- A list of strings with its index: whether a string is there, and one string more.
use Rattle.std.proofs.Common.{◌≡◌, ℕ, ◌+◌, List, [], ◌∷◌, ◌++◌, length, Bool, true, false, ◌||◌, cond, Option, Some, None, get_or, take}
use Rattle.std.proofs.Common.{refl, sym, ap, subst, ◌∙◌, arith}
use Rattle.std.specs.Prelude.{is_some, ◌==◌}
use Rattle.std.specs.Option.{option_or, option_map, unwrap_or}
use Rattle.std.specs.Ordering.{nat_cmp}
use Rattle.std.specs.Cmp.Lexicographic.{slice_cmp}
use Rattle.std.specs.Str.{bytes_eq}
use Rattle.std.specs.BTreeMap as tree
use Rattle.std.specs.BTreeMap.{BTreeMap}
use Rattle.std.specs.Map.{lookup}
use Rattle.std.specs.Global.{Vec}
use Rattle.std.proofs.lemmas.Slice.Eq.{bytes_eq-Decides}
use Rattle.std.proofs.lemmas.List.{get_or_append_left, length-append, take-append-le, take_all}
use Rattle.std.proofs.Math.Seq.{get_or-append_seam}
use Rattle.spec_data.specs.Lists.{is_among}
use Rattle.bm_hash.proofs.Evidence.{place_push}
use Rattle.bm_hash_strings.specs.declared.places.Places.{Places}
use Rattle.bm_hash_strings.specs.Placed.{IsPlaced, HasFingerprint, IsOther, fingerprint_of, first_place, place_by_fingerprint, found_at, place_by, placed_at}
use Rattle.bm_hash_strings.proofs.Updates.{fingerprint_there, fingerprint_elsewhere, found_there, found_elsewhere}

-- ---- whether a string is there

some_next : (o : Option ℕ) → is_some (option_map (λ k. k + 1) o) ≡ is_some o
some_next None = refl
some_next (Some k) = refl

pub placed-among : (strings : List (List ℕ)) (q : List ℕ) → is_some (first_place strings q) ≡ is_among q strings
placed-among [] q = refl
placed-among (s ∷ ss) q =
    elim (bytes_eq s q) as (λ b. is_some (cond b (Some 0) (option_map (λ k. k + 1) (first_place ss q))) ≡ b || is_among q ss) [
      | true ↦ refl
      | false ↦ some_next (first_place ss q) ∙ placed-among ss q
    ]

unplaced : (strings : List (List ℕ)) (q : List ℕ) → is_among q strings ≡ false → first_place strings q ≡ None
unplaced strings q h = by_place (first_place strings q) (placed-among strings q ∙ h)
  where
    by_place : (o : Option ℕ) → is_some o ≡ false → o ≡ None
    by_place None e = refl
    by_place (Some k) e = cc

-- where no string has the fingerprint
pub among-none : (strings : List (List ℕ)) (places : Places) (q : List ℕ) → IsPlaced strings places
    → place_by_fingerprint places.by_fingerprint (fingerprint_of q) ≡ None → is_among q strings ≡ false
among-none strings places q is none =
    sym (placed-among strings q) ∙ ap is_some (sym (is.at q) ∙ ap (λ o. place_by strings q o (found_at places.others q)) none)

-- where a string has the fingerprint
pub among-some : (strings : List (List ℕ)) (places : Places) (q : List ℕ) (p : ℕ) → IsPlaced strings places
    → place_by_fingerprint places.by_fingerprint (fingerprint_of q) ≡ Some p
    → is_among q strings ≡ cond (bytes_eq (get_or strings p []) q) true (is_some (found_at places.others q))
among-some strings places q p is some =
    sym (placed-among strings q)
    ∙ ap is_some (sym (is.at q) ∙ ap (λ o. place_by strings q o (found_at places.others q)) some)
    ∙ by (bytes_eq (get_or strings p []) q)
  where
    by : (b : Bool) → is_some (cond b (Some p) (found_at places.others q)) ≡ cond b true (is_some (found_at places.others q))
    by true = refl
    by false = refl

-- ---- the same entries in another map

-- another map tells the same of each fingerprint
pub placed_same-by_fingerprint : (strings : List (List ℕ)) (places : Places) (after : BTreeMap ℕ ℕ) → IsPlaced strings places
    → ((m : ℕ) → place_by_fingerprint after m ≡ place_by_fingerprint places.by_fingerprint m) → IsPlaced strings (record {
      by_fingerprint = after;
      others = places.others;
    })
placed_same-by_fingerprint strings places after is still = record {
  at = λ q. ap (λ o. place_by strings q o (found_at places.others q)) (still (fingerprint_of q)) ∙ is.at q;
  fingerprints = λ m p h. is.fingerprints m p (sym (still m) ∙ h);
  behind = λ q k h.
      let old = is.behind q k h in
      record { within = old.within; there = old.there; first = old.first; by_fingerprint = still (fingerprint_of q) ∙ old.by_fingerprint; behind = old.behind };
}

-- another map of fingerprints, or of strings, has the same entries
pub placed_still-by_fingerprint : (strings : List (List ℕ)) (places : Places) (after : BTreeMap ℕ ℕ) → IsPlaced strings places
    → after.entries ≡ places.by_fingerprint.entries → IsPlaced strings (record { by_fingerprint = after; others = places.others })
placed_still-by_fingerprint strings places after is same = placed_same-by_fingerprint strings places after is (λ m. ap (lookup _) same)

pub placed_still-others : (strings : List (List ℕ)) (places : Places) (after : BTreeMap (Vec ℕ) ℕ) → IsPlaced strings places
    → after.entries ≡ places.others.entries → IsPlaced strings (record { by_fingerprint = places.by_fingerprint; others = after })
placed_still-others strings places after is same = record {
  at = λ q. ap (place_by strings q (place_by_fingerprint places.by_fingerprint (fingerprint_of q))) (still q) ∙ is.at q;
  fingerprints = is.fingerprints;
  behind = λ q k h. is.behind q k (sym (still q) ∙ h);
}
  where
    still : (q : List ℕ) → found_at after q ≡ found_at places.others q
    still q = ap (lookup _) same

-- ---- a string that is taken away again

-- strings with one more, cut to what they were
pub cut_back : (strings : List (List ℕ)) (s : List ℕ) (next cut : List (List ℕ)) (place : ℕ) → place ≡ length strings → next ≡ strings ++ s ∷ []
    → cut ≡ take place next → cut ≡ strings
cut_back strings s next cut place here longer shorter =
    shorter ∙ ap (take place) longer ∙ take-append-le place strings (s ∷ []) (omega (arith, here)) ∙ take_all place strings (omega (arith, here))

-- ---- a fingerprint is put in the index, unless it is there

module _ (strings : List (List ℕ)) (places : Places) (is : IsPlaced strings places) (after : BTreeMap ℕ ℕ) (m first place : ℕ)
    (had : first ≡ unwrap_or (place_by_fingerprint places.by_fingerprint m) place)
    (updates : tree.UpdatesBy nat_cmp (λ k. nat_cmp m k) places.by_fingerprint after (Some first)) where
  -- it was there
  pub placed_kept : (first ≡ place → ⊥) → IsPlaced strings (record { by_fingerprint = after; others = places.others })
  placed_kept other = placed_same-by_fingerprint strings places after is (λ n. by_place (place_by_fingerprint places.by_fingerprint m) refl n (m == n) refl)
    where
      by_place : (o : Option ℕ) → place_by_fingerprint places.by_fingerprint m ≡ o
          → (n : ℕ) (b : Bool) → m == n ≡ b → place_by_fingerprint after n ≡ place_by_fingerprint places.by_fingerprint n
      by_place None h n b e = absurd (other (had ∙ ap (λ o. unwrap_or o place) h))
      by_place (Some p) h n false e = fingerprint_elsewhere m places.by_fingerprint after (Some first) updates n e
      by_place (Some p) h n true e =
          let same : m ≡ n = grind arith in
          let at : first ≡ p = had ∙ ap (λ o. unwrap_or o place) h in
          fingerprint_there m places.by_fingerprint after (Some first) updates n same
          ∙ ap Some at ∙ subst (λ k. Some p ≡ place_by_fingerprint places.by_fingerprint k) same (sym h)

  -- it wasn't
  pub none_had : place ≡ length strings → first ≡ place → is_some (place_by_fingerprint places.by_fingerprint m) ≡ false
  none_had here same = by_place (place_by_fingerprint places.by_fingerprint m) refl
    where
      by_place : (o : Option ℕ) → place_by_fingerprint places.by_fingerprint m ≡ o → is_some o ≡ false
      by_place None h = refl
      by_place (Some p) h =
          let lt = (is.fingerprints m p h).within in
          let at : first ≡ p = had ∙ ap (λ o. unwrap_or o place) h in
          absurd (omega (arith, lt, at, here, same))

-- a string whose fingerprint wasn't there isn't there
pub first_new : (strings : List (List ℕ)) (places : Places) → IsPlaced strings places → (s : List ℕ) (after : BTreeMap ℕ ℕ) (m first place : ℕ)
    → m ≡ fingerprint_of s → first ≡ unwrap_or (place_by_fingerprint places.by_fingerprint m) place
    → tree.UpdatesBy nat_cmp (λ k. nat_cmp m k) places.by_fingerprint after (Some first)
    → place ≡ length strings → first ≡ place → is_among s strings ≡ false
first_new strings places is s after m first place of had updates here same =
    among-none strings places s is (
    none (place_by_fingerprint places.by_fingerprint (fingerprint_of s))
    (ap (λ n. is_some (place_by_fingerprint places.by_fingerprint n)) (sym of) ∙ none_had strings places is after m first place had updates here same))
  where
    none : (o : Option ℕ) → is_some o ≡ false → o ≡ None
    none None h = refl
    none (Some p) h = cc

-- what has a place is there, and what has none isn't
pub among_by : (strings : List (List ℕ)) (q : List ℕ) (o : Option ℕ) (b : Bool) → o ≡ first_place strings q → is_some o ≡ b → is_among q strings ≡ b
among_by strings q o b e h = sym (placed-among strings q) ∙ ap is_some (sym e) ∙ h

-- a string is added once: where it is there, and where it isn't
module _ (old now : List (List ℕ)) (q : List ℕ) (o : Option ℕ) (added : Bool) (left : now ≡ cond added (old ++ q ∷ []) old) (none : added ≡ false)
    (looked : o ≡ first_place now q) where
  same_left : now ≡ old
  same_left = left ∙ ap (λ b. cond b (old ++ q ∷ []) old) none

  there : (b : Bool) → is_some o ≡ b → is_among q old ≡ b
  there b h = among_by old q o b (looked ∙ ap (λ l. first_place l q) same_left) h

  pub once_there : (p : ℕ) → o ≡ Some p → now ≡ cond (is_among q old) old (old ++ q ∷ [])
  once_there p h = same_left ∙ sym (ap (λ b. cond b old (old ++ q ∷ [])) (there true (ap is_some h)))

  pub once_new : (next : List (List ℕ)) → o ≡ None → next ≡ now ++ q ∷ [] → next ≡ cond (is_among q old) old (old ++ q ∷ [])
  once_new next h more =
      more ∙ ap (λ l. l ++ q ∷ []) same_left ∙ sym (ap (λ b. cond b old (old ++ q ∷ [])) (there false (ap is_some h)))

-- ---- where strings follow

module _ (strings : List (List ℕ)) (places : Places) (is : IsPlaced strings places) (s : List ℕ) where
  -- the index tells the same of longer strings
  same_place : (q : List ℕ) → placed_at (strings ++ s ∷ []) places q ≡ first_place strings q
  same_place q = by (place_by_fingerprint places.by_fingerprint (fingerprint_of q)) refl ∙ is.at q
    where
      by : (o : Option ℕ) → place_by_fingerprint places.by_fingerprint (fingerprint_of q) ≡ o
          → place_by (strings ++ s ∷ []) q o (found_at places.others q) ≡ place_by strings q o (found_at places.others q)
      by None h = refl
      by (Some p) h =
          ap (λ x. cond (bytes_eq x q) (Some p) (found_at places.others q))
          (get_or_append_left strings (s ∷ []) [] p (is.fingerprints _ p h).within)

  longer : length (strings ++ s ∷ []) ≡ length strings + 1
  longer = length-append strings (s ∷ [])

  fingerprints_more : (m p : ℕ) → place_by_fingerprint places.by_fingerprint m ≡ Some p → HasFingerprint (strings ++ s ∷ []) m p
  fingerprints_more m p h =
      let old = is.fingerprints m p h in
      let lt = old.within in record {
        within = omega (arith, lt, longer);
        by_fingerprint = ap fingerprint_of (get_or_append_left strings (s ∷ []) [] p lt) ∙ old.by_fingerprint;
      }

  others_more : (index : BTreeMap ℕ ℕ) (q : List ℕ) (k : ℕ) → found_at places.others q ≡ Some k
      → ((p : ℕ) → place_by_fingerprint places.by_fingerprint (fingerprint_of q) ≡ Some p → place_by_fingerprint index (fingerprint_of q) ≡ Some p)
      → IsOther (strings ++ s ∷ []) index q k
  others_more index q k h keeps =
      let old = is.behind q k h in
      let lt = old.within in record {
        within = omega (arith, lt, longer);
        there = get_or_append_left strings (s ∷ []) [] k lt ∙ old.there;
        first = old.first;
        by_fingerprint = keeps old.first old.by_fingerprint;
        behind = old.behind;
      }

  -- where the string itself isn't met, it takes no place
  push_apart : (q : List ℕ) → bytes_eq s q ≡ false → first_place (strings ++ s ∷ []) q ≡ first_place strings q
  push_apart q apart = place_push (λ m. m) strings s q
      ∙ ap (λ b. option_or (first_place strings q) (cond b (Some (length strings)) None)) apart ∙ or_none (first_place strings q)
    where
      or_none : (o : Option ℕ) → option_or o None ≡ o
      or_none None = refl
      or_none (Some x) = refl

  -- where it wasn't there, it is at the end
  push_first : (q : List ℕ) → bytes_eq s q ≡ true → first_place strings q ≡ None
      → first_place (strings ++ s ∷ []) q ≡ Some (length strings)
  push_first q same none =
      place_push (λ m. m) strings s q
      ∙ ap (λ b. option_or (first_place strings q) (cond b (Some (length strings)) None)) same
      ∙ ap (λ o. option_or o (Some (length strings))) none

  -- where it was there, it is where it was
  push_again : (q : List ℕ) → is_some (first_place strings q) ≡ true → first_place (strings ++ s ∷ []) q ≡ first_place strings q
  push_again q some = place_push (λ m. m) strings s q ∙ by (first_place strings q) some
    where
      by : (o : Option ℕ) → is_some o ≡ true → option_or o (cond (bytes_eq s q) (Some (length strings)) None) ≡ o
      by None e = cc
      by (Some k) e = refl

  -- ---- a string again

  pub placed_again : (next : List (List ℕ)) → is_among s strings ≡ true → next ≡ strings ++ s ∷ [] → IsPlaced next places
  placed_again next there e = rw e (record {
    at = λ q. same_place q ∙ sym (by q (bytes_eq s q) refl);
    fingerprints = fingerprints_more;
    behind = λ q k h. others_more places.by_fingerprint q k h (λ p m. m);
  })
    where
      by : (q : List ℕ) (b : Bool) → bytes_eq s q ≡ b → first_place (strings ++ s ∷ []) q ≡ first_place strings q
      by q false h = push_apart q h
      by q true h = push_again q (placed-among strings q ∙ ap (λ l. is_among l strings) (sym ((bytes_eq-Decides s q).0 h)) ∙ there)

  -- ---- a string of a new fingerprint

  pub placed_fingerprint : (next : List (List ℕ)) (after : BTreeMap ℕ ℕ) (m place : ℕ)
      → m ≡ fingerprint_of s → is_some (place_by_fingerprint places.by_fingerprint m) ≡ false
      → place ≡ length strings → next ≡ strings ++ s ∷ []
      → tree.UpdatesBy nat_cmp (λ k. nat_cmp m k) places.by_fingerprint after (Some place)
      → IsPlaced next (record { by_fingerprint = after; others = places.others })
  placed_fingerprint next after m place of free here e updates = rw e (record {
    at = λ q. by q (m == fingerprint_of q) refl;
    fingerprints = λ n p h. of_fingerprint n p (m == n) refl h;
    behind = λ q k h. others_more after q k h (λ p is_first. kept q p (m == fingerprint_of q) refl is_first);
  })
    where
      none : place_by_fingerprint places.by_fingerprint m ≡ None
      none = by_some (place_by_fingerprint places.by_fingerprint m) free
        where
          by_some : (o : Option ℕ) → is_some o ≡ false → o ≡ None
          by_some None h = refl
          by_some (Some p) h = cc

      no_fingerprint : (n : ℕ) → m == n ≡ true → place_by_fingerprint places.by_fingerprint n ≡ None
      no_fingerprint n h = let same : m ≡ n = grind arith in subst (λ k. place_by_fingerprint places.by_fingerprint k ≡ None) same none

      no_other : (q : List ℕ) → m == fingerprint_of q ≡ true → found_at places.others q ≡ None
      no_other q h = by_found (found_at places.others q) refl
        where
          by_found : (o : Option ℕ) → found_at places.others q ≡ o → o ≡ None
          by_found None found = refl
          by_found (Some k) found = let first = (is.behind q k found).by_fingerprint in let absent = no_fingerprint (fingerprint_of q) h in cc

      seam : get_or (strings ++ s ∷ []) place [] ≡ s
      seam = ap (λ k. get_or (strings ++ s ∷ []) k []) here ∙ get_or-append_seam strings s [] []

      by_end : (q : List ℕ) (b : Bool) → bytes_eq s q ≡ b → first_place strings q ≡ None
          → cond b (Some place) None ≡ first_place (strings ++ s ∷ []) q
      by_end q true h absent = ap Some here ∙ sym (push_first q h absent)
      by_end q false h absent = sym (push_apart q h ∙ absent)

      by : (q : List ℕ) (b : Bool) → m == fingerprint_of q ≡ b
          → place_by (strings ++ s ∷ []) q (place_by_fingerprint after (fingerprint_of q)) (found_at places.others q) ≡ first_place (strings ++ s ∷ []) q
      by q true h =
          let there : place_by_fingerprint after (fingerprint_of q) ≡ Some place =
          fingerprint_there m places.by_fingerprint after (Some place) updates (fingerprint_of q) (grind arith) in
          let absent : first_place strings q ≡ None =
          sym (is.at q) ∙ ap (λ o. place_by strings q o (found_at places.others q)) (no_fingerprint (fingerprint_of q) h) in
          ap (λ o. place_by (strings ++ s ∷ []) q o (found_at places.others q)) there
          ∙ ap (λ o. cond (bytes_eq (get_or (strings ++ s ∷ []) place []) q) (Some place) o) (no_other q h)
          ∙ ap (λ x. cond (bytes_eq x q) (Some place) None) seam
          ∙ by_end q (bytes_eq s q) refl absent
      by q false h =
          ap (λ o. place_by (strings ++ s ∷ []) q o (found_at places.others q))
          (fingerprint_elsewhere m places.by_fingerprint after (Some place) updates (fingerprint_of q) h)
          ∙ same_place q ∙ sym (push_apart q (fingerprints_apart (bytes_eq s q) refl))
        where
          fingerprints_apart : (b : Bool) → bytes_eq s q ≡ b → b ≡ false
          fingerprints_apart false t = refl
          fingerprints_apart true t =
              let same : m ≡ fingerprint_of q = of ∙ ap fingerprint_of ((bytes_eq-Decides s q).0 t) in
              absurd (grind arith)

      of_fingerprint : (n p : ℕ) (b : Bool) → m == n ≡ b → place_by_fingerprint after n ≡ Some p → HasFingerprint (strings ++ s ∷ []) n p
      of_fingerprint n p true h found =
          let same : m ≡ n = grind arith in
          let there = fingerprint_there m places.by_fingerprint after (Some place) updates n same in
          let at_end : place ≡ p = cc in record {
            within = omega (arith, longer, here, at_end);
            by_fingerprint = ap (λ k. fingerprint_of (get_or (strings ++ s ∷ []) k [])) (sym at_end) ∙ ap fingerprint_of seam ∙ sym of ∙ same;
          }
      of_fingerprint n p false h found = fingerprints_more n p (sym (fingerprint_elsewhere m places.by_fingerprint after (Some place) updates n h) ∙ found)

      kept : (q : List ℕ) (p : ℕ) (b : Bool) → m == fingerprint_of q ≡ b → place_by_fingerprint places.by_fingerprint (fingerprint_of q) ≡ Some p
          → place_by_fingerprint after (fingerprint_of q) ≡ Some p
      kept q p true h first = let absent = no_fingerprint (fingerprint_of q) h in cc
      kept q p false h first = fingerprint_elsewhere m places.by_fingerprint after (Some place) updates (fingerprint_of q) h ∙ first

  -- the same, as the index is told of it
  pub placed_first : (next : List (List ℕ)) (after : BTreeMap ℕ ℕ) (m first place : ℕ) → m ≡ fingerprint_of s
      → first ≡ unwrap_or (place_by_fingerprint places.by_fingerprint m) place
      → tree.UpdatesBy nat_cmp (λ k. nat_cmp m k) places.by_fingerprint after (Some first)
      → place ≡ length strings → next ≡ strings ++ s ∷ [] → first ≡ place → IsPlaced next (record { by_fingerprint = after; others = places.others })
  placed_first next after m first place of had updates here e same =
      placed_fingerprint next after m place of (none_had strings places is after m first place had updates here same) here e
      (subst (λ n. tree.UpdatesBy nat_cmp (λ k. nat_cmp m k) places.by_fingerprint after (Some n)) same updates)

  -- ---- a string of a fingerprint that is there

  pub placed_other : (next : List (List ℕ)) (after : BTreeMap (Vec ℕ) ℕ) (key : List ℕ) (place : ℕ) → is_among s strings ≡ false
      → is_some (place_by_fingerprint places.by_fingerprint (fingerprint_of s)) ≡ true → key ≡ s → place ≡ length strings → next ≡ strings ++ s ∷ []
      → tree.UpdatesBy (λ x y. slice_cmp nat_cmp x.items y.items) (λ k. slice_cmp nat_cmp key k.items) places.others after (Some place)
      → IsPlaced next (record { by_fingerprint = places.by_fingerprint; others = after })
  placed_other next after key place new taken alike here e updates = rw e (record {
    at = λ q. by q (bytes_eq s q) refl;
    fingerprints = fingerprints_more;
    behind = λ q k h. of_string q k (bytes_eq s q) refl h;
  })
    where
      keyed : (q : List ℕ) (b : Bool) → bytes_eq s q ≡ b → bytes_eq key q ≡ b
      keyed q b h = ap (λ l. bytes_eq l q) alike ∙ h

      first : (p : ℕ) × (place_by_fingerprint places.by_fingerprint (fingerprint_of s) ≡ Some p)
      first = by_some (place_by_fingerprint places.by_fingerprint (fingerprint_of s)) taken
        where
          by_some : (o : Option ℕ) → is_some o ≡ true → (p : ℕ) × (o ≡ Some p)
          by_some None h = cc
          by_some (Some p) h = (p, refl)

      not_first : (b : Bool) → bytes_eq (get_or strings first.0 []) s ≡ b → b ≡ false
      not_first false h = refl
      not_first true h = sym (sym new ∙ among-some strings places s first.0 is first.1 ∙ ap (λ b. cond b true (is_some (found_at places.others s))) h)

      there : bytes_eq (get_or (strings ++ s ∷ []) first.0 []) s ≡ false
      there =
          ap (λ x. bytes_eq x s) (get_or_append_left strings (s ∷ []) [] first.0 (is.fingerprints _ first.0 first.1).within)
          ∙ not_first (bytes_eq (get_or strings first.0 []) s) refl

      itself : (q : List ℕ) → s ≡ q → found_at after q ≡ Some place
          → place_by (strings ++ s ∷ []) q (place_by_fingerprint places.by_fingerprint (fingerprint_of q)) (found_at after q) ≡ Some place
      itself q same found =
          subst (λ l. found_at after l ≡ Some place
          → place_by (strings ++ s ∷ []) l (place_by_fingerprint places.by_fingerprint (fingerprint_of l)) (found_at after l) ≡ Some place) same
          (λ f. ap (λ o. place_by (strings ++ s ∷ []) s o (found_at after s)) first.1
          ∙ ap (λ b. cond b (Some first.0) (found_at after s)) there ∙ f) found

      by : (q : List ℕ) (b : Bool) → bytes_eq s q ≡ b
          → place_by (strings ++ s ∷ []) q (place_by_fingerprint places.by_fingerprint (fingerprint_of q)) (found_at after q)
          ≡ first_place (strings ++ s ∷ []) q
      by q true h =
          let same = (bytes_eq-Decides s q).0 h in
          let none : first_place strings q ≡ None = ap (first_place strings) (sym same) ∙ unplaced strings s new in
          itself q same (found_there key places.others after (Some place) updates q (keyed q true h))
          ∙ ap Some here ∙ sym (push_first q h none)
      by q false h =
          ap (place_by (strings ++ s ∷ []) q (place_by_fingerprint places.by_fingerprint (fingerprint_of q)))
          (found_elsewhere key places.others after (Some place) updates q (keyed q false h))
          ∙ same_place q ∙ sym (push_apart q h)

      of_string : (q : List ℕ) (k : ℕ) (b : Bool) → bytes_eq s q ≡ b → found_at after q ≡ Some k → IsOther (strings ++ s ∷ []) places.by_fingerprint q k
      of_string q k true h found =
          let same = (bytes_eq-Decides s q).0 h in
          let at = found_there key places.others after (Some place) updates q (keyed q true h) in
          let at_end : place ≡ k = cc in
          let lt = (is.fingerprints _ first.0 first.1).within in record {
            within = omega (arith, longer, here, at_end);
            there = ap (λ n. get_or (strings ++ s ∷ []) n []) (sym at_end ∙ here) ∙ get_or-append_seam strings s [] [] ∙ same;
            first = first.0;
            by_fingerprint = ap (λ l. place_by_fingerprint places.by_fingerprint (fingerprint_of l)) (sym same) ∙ first.1;
            behind = omega (arith, lt, here, at_end);
          }
      of_string q k false h found =
          others_more places.by_fingerprint q k (sym (found_elsewhere key places.others after (Some place) updates q (keyed q false h)) ∙ found) (λ p m. m)
