-- A list of strings with its index, without the last string.
use Rattle.std.proofs.Common.{◌≡◌, ℕ, ◌+◌, ◌<◌, List, [], ◌∷◌, ◌++◌, length, Bool, true, false, cond, Option, Some, None, get_or}
use Rattle.std.proofs.Common.{refl, sym, ap, subst, ◌∙◌, arith}
use Rattle.std.specs.Prelude.{◌==◌}
use Rattle.std.specs.Option.{option_or}
use Rattle.std.specs.Ordering.{nat_cmp}
use Rattle.std.specs.Cmp.Lexicographic.{slice_cmp}
use Rattle.std.specs.Str.{bytes_eq}
use Rattle.std.specs.BTreeMap as tree
use Rattle.std.specs.BTreeMap.{BTreeMap}
use Rattle.std.specs.Global.{Vec}
use Rattle.std.proofs.lemmas.Slice.Eq.{bytes_eq-Decides}
use Rattle.std.proofs.lemmas.List.{get_or_append_left, length-append}
use Rattle.std.proofs.Math.Seq.{get_or-append_seam}
use Rattle.bm_hash.proofs.Evidence.{place_push, place_within}
use Rattle.bm_hash_strings.specs.declared.places.Places.{Places}
use Rattle.bm_hash_strings.specs.Placed.{IsPlaced, HasFingerprint, IsOther, fingerprint_of, first_place, place_by_fingerprint, found_at, place_by, placed_at, is_place}
use Rattle.bm_hash_strings.proofs.Updates.{fingerprint_there, fingerprint_elsewhere, found_there, found_elsewhere}

-- what was asked of a look-up's answer is so of what is looked up
pub told : (o found : Option ℕ) (place n : ℕ) (r b : Bool) → found ≡ o → place ≡ n → r ≡ is_place found place → r ≡ b → is_place o n ≡ b
told o found place n r b f e asked answer = sym (ap (λ x. is_place x place) f ∙ ap (is_place o) e) ∙ sym asked ∙ answer

-- ---- places that are known or the last one

-- what isn't the last place is the place before
earlier : (x y : Option ℕ) (n : ℕ) → y ≡ option_or x (Some n) → is_place y n ≡ false → y ≡ x
earlier None y n e other =
    let same : is_place (Some n) n ≡ false = sym (ap (λ o. is_place o n) e) ∙ other in
    absurd (grind arith)
earlier (Some j) y n e other = e

-- what is the last place was nowhere before
nowhere : (x : Option ℕ) (n : ℕ) → ((j : ℕ) → x ≡ Some j → j < n) → Some n ≡ option_or x (Some n) → x ≡ None
nowhere None n low e = refl
nowhere (Some j) n low e = let lt = low j refl in let same : n ≡ j = cc in absurd (omega (arith, lt, same))

or_none : (o : Option ℕ) → option_or o None ≡ o
or_none None = refl
or_none (Some x) = refl

not_here : (p n : ℕ) → p < n → is_place (Some p) n ≡ false
not_here p n lt = by (p == n) refl
  where
    by : (b : Bool) → p == n ≡ b → b ≡ false
    by false h = refl
    by true h = let same : p ≡ n = grind arith in absurd (omega (arith, lt, same))

module _ (prefix : List (List ℕ)) (s : List ℕ) (places : Places) (is : IsPlaced (prefix ++ s ∷ []) places) where
  longer : length (prefix ++ s ∷ []) ≡ length prefix + 1
  longer = length-append prefix (s ∷ [])

  last : get_or (prefix ++ s ∷ []) (length prefix) [] ≡ s
  last = get_or-append_seam prefix s [] []

  -- a fingerprint that isn't at the last place is within the prefix
  before_this : (m p : ℕ) → place_by_fingerprint places.by_fingerprint m ≡ Some p → (p ≡ length prefix → ⊥) → HasFingerprint prefix m p
  before_this m p h other = by (p == length prefix) refl
    where
      old : HasFingerprint (prefix ++ s ∷ []) m p
      old = is.fingerprints m p h

      by : (b : Bool) → p == length prefix ≡ b → HasFingerprint prefix m p
      by true e = absurd (other (grind arith))
      by false e =
          let within = old.within in
          let lt : p < length prefix = grind (arith, within, longer, e) in record {
            within = lt;
            by_fingerprint = sym (ap fingerprint_of (get_or_append_left prefix (s ∷ []) [] p lt)) ∙ old.by_fingerprint;
          }

  -- the last place has the fingerprint of the last string
  fingerprint_last : (m p : ℕ) → place_by_fingerprint places.by_fingerprint m ≡ Some p → p ≡ length prefix → fingerprint_of s ≡ m
  fingerprint_last m p h e = sym (ap fingerprint_of (ap (λ k. get_or (prefix ++ s ∷ []) k []) e ∙ last)) ∙ (is.fingerprints m p h).by_fingerprint

  -- a string among the others that isn't the last is within the prefix
  other_before_this : (index : BTreeMap ℕ ℕ) (q : List ℕ) (k : ℕ) → found_at places.others q ≡ Some k → (k ≡ length prefix → ⊥)
      → ((p : ℕ) → p < k → place_by_fingerprint places.by_fingerprint (fingerprint_of q) ≡ Some p → place_by_fingerprint index (fingerprint_of q) ≡ Some p)
      → IsOther prefix index q k
  other_before_this index q k h other keeps = by (k == length prefix) refl
    where
      old : IsOther (prefix ++ s ∷ []) places.by_fingerprint q k
      old = is.behind q k h

      by : (b : Bool) → k == length prefix ≡ b → IsOther prefix index q k
      by true e = absurd (other (grind arith))
      by false e =
          let within = old.within in
          let lt : k < length prefix = grind (arith, within, longer, e) in record {
            within = lt;
            there = sym (get_or_append_left prefix (s ∷ []) [] k lt) ∙ old.there;
            first = old.first;
            by_fingerprint = keeps old.first old.behind old.by_fingerprint;
            behind = old.behind;
          }

  -- a string that stands last among the others is the last string
  last_other : (q : List ℕ) (k : ℕ) → found_at places.others q ≡ Some k → k ≡ length prefix → s ≡ q
  last_other q k h e = sym (ap (λ j. get_or (prefix ++ s ∷ []) j []) e ∙ last) ∙ (is.behind q k h).there

  low : (q : List ℕ) (j : ℕ) → first_place prefix q ≡ Some j → j < length prefix
  low q j h = place_within (λ m. m) prefix q j h

  whole : (q : List ℕ) → placed_at (prefix ++ s ∷ []) places q
      ≡ option_or (first_place prefix q) (cond (bytes_eq s q) (Some (length prefix)) None)
  whole q = is.at q ∙ place_push (λ m. m) prefix s q

  whole_apart : (q : List ℕ) → bytes_eq s q ≡ false → placed_at (prefix ++ s ∷ []) places q ≡ first_place prefix q
  whole_apart q h = whole q ∙ ap (λ b. option_or (first_place prefix q) (cond b (Some (length prefix)) None)) h ∙ or_none (first_place prefix q)

  whole_same : (q : List ℕ) → bytes_eq s q ≡ true
      → placed_at (prefix ++ s ∷ []) places q ≡ option_or (first_place prefix q) (Some (length prefix))
  whole_same q h = whole q ∙ ap (λ b. option_or (first_place prefix q) (cond b (Some (length prefix)) None)) h

  -- a place within the prefix has the same string in both
  place_prefix : (q : List ℕ) (o other : Option ℕ) → ((p : ℕ) → o ≡ Some p → p < length prefix)
      → place_by prefix q o other ≡ place_by (prefix ++ s ∷ []) q o other
  place_prefix q None other h = refl
  place_prefix q (Some p) other h =
      ap (λ x. cond (bytes_eq x q) (Some p) other) (sym (get_or_append_left prefix (s ∷ []) [] p (h p refl)))

  -- ---- where the last string is the first of its fingerprint

  pub forgotten_fingerprint : (after : BTreeMap ℕ ℕ) (m : ℕ)
      → m ≡ fingerprint_of s → is_place (place_by_fingerprint places.by_fingerprint m) (length prefix) ≡ true
      → tree.UpdatesBy nat_cmp (λ k. nat_cmp m k) places.by_fingerprint after None
      → IsPlaced prefix (record { by_fingerprint = after; others = places.others })
  forgotten_fingerprint after m of first updates = record {
    at = λ q. by q (m == fingerprint_of q) refl;
    fingerprints = λ k p h. of_fingerprint k p (m == k) refl h;
    behind = λ q k h. of_string q k (m == fingerprint_of q) refl h;
  }
    where
      here : place_by_fingerprint places.by_fingerprint m ≡ Some (length prefix)
      here = by_first (place_by_fingerprint places.by_fingerprint m) first
        where
          by_first : (o : Option ℕ) → is_place o (length prefix) ≡ true → o ≡ Some (length prefix)
          by_first None h = cc
          by_first (Some p) h = let same : p ≡ length prefix = grind arith in ap Some same

      here_of : (k : ℕ) → m == k ≡ true → place_by_fingerprint places.by_fingerprint k ≡ Some (length prefix)
      here_of k h = let same : m ≡ k = grind arith in subst (λ j. place_by_fingerprint places.by_fingerprint j ≡ Some (length prefix)) same here

      gone : (k : ℕ) → m == k ≡ true → place_by_fingerprint after k ≡ None
      gone k h = fingerprint_there m places.by_fingerprint after None updates k (grind arith)

      stays : (k : ℕ) → m == k ≡ false → place_by_fingerprint after k ≡ place_by_fingerprint places.by_fingerprint k
      stays k h = fingerprint_elsewhere m places.by_fingerprint after None updates k h

      elsewhere : (k p : ℕ) → m == k ≡ false → place_by_fingerprint places.by_fingerprint k ≡ Some p → p ≡ length prefix → ⊥
      elsewhere k p h found e = let same : m ≡ k = of ∙ fingerprint_last k p found e in absurd (grind arith)

      apart : (q : List ℕ) → m == fingerprint_of q ≡ false → (b : Bool) → bytes_eq s q ≡ b → b ≡ false
      apart q h false t = refl
      apart q h true t = let same : m ≡ fingerprint_of q = of ∙ ap fingerprint_of ((bytes_eq-Decides s q).0 t) in absurd (grind arith)

      -- no string of this fingerprint is left
      none_left : (q : List ℕ) → m == fingerprint_of q ≡ true → first_place prefix q ≡ None
      none_left q h = by_place (first_place prefix q) refl
        where
          by_fingerprint : placed_at (prefix ++ s ∷ []) places q ≡ cond (bytes_eq s q) (Some (length prefix)) (found_at places.others q)
          by_fingerprint =
              ap (λ o. place_by (prefix ++ s ∷ []) q o (found_at places.others q)) (here_of (fingerprint_of q) h)
              ∙ ap (λ x. cond (bytes_eq x q) (Some (length prefix)) (found_at places.others q)) last

          by_same : (j : ℕ) → first_place prefix q ≡ Some j → (b : Bool) → bytes_eq s q ≡ b → ⊥
          by_same j there true t =
              let is_last : Some (length prefix) ≡ Some j =
              sym (ap (λ b. cond b (Some (length prefix)) (found_at places.others q)) t)
              ∙ sym by_fingerprint ∙ whole_same q t ∙ ap (λ o. option_or o (Some (length prefix))) there in
              let same : length prefix ≡ j = cc in
              let lt = low q j there in
              omega (arith, lt, same)
          by_same j there false t =
              let found : found_at places.others q ≡ Some j =
              sym (ap (λ b. cond b (Some (length prefix)) (found_at places.others q)) t)
              ∙ sym by_fingerprint ∙ whole_apart q t ∙ there in
              let old = is.behind q j found in
              let first_is : Some old.first ≡ Some (length prefix) = sym old.by_fingerprint ∙ here_of (fingerprint_of q) h in
              let same : old.first ≡ length prefix = cc in
              let after_it = old.behind in
              let lt = low q j there in
              omega (arith, lt, after_it, same)

          by_place : (o : Option ℕ) → first_place prefix q ≡ o → o ≡ None
          by_place None t = refl
          by_place (Some j) t = absurd (by_same j t (bytes_eq s q) refl)

      by : (q : List ℕ) (b : Bool) → m == fingerprint_of q ≡ b
          → place_by prefix q (place_by_fingerprint after (fingerprint_of q)) (found_at places.others q) ≡ first_place prefix q
      by q true h = ap (λ o. place_by prefix q o (found_at places.others q)) (gone (fingerprint_of q) h) ∙ sym (none_left q h)
      by q false h =
          ap (λ o. place_by prefix q o (found_at places.others q)) (stays (fingerprint_of q) h)
          ∙ place_prefix q (place_by_fingerprint places.by_fingerprint (fingerprint_of q)) (found_at places.others q)
          (λ p found. (before_this (fingerprint_of q) p found (elsewhere (fingerprint_of q) p h found)).within)
          ∙ whole_apart q (apart q h (bytes_eq s q) refl)

      of_fingerprint : (k p : ℕ) (b : Bool) → m == k ≡ b → place_by_fingerprint after k ≡ Some p → HasFingerprint prefix k p
      of_fingerprint k p true h found = let none = gone k h in cc
      of_fingerprint k p false h found = let before = sym (stays k h) ∙ found in before_this k p before (elsewhere k p h before)

      of_string : (q : List ℕ) (k : ℕ) (b : Bool) → m == fingerprint_of q ≡ b → found_at places.others q ≡ Some k → IsOther prefix after q k
      of_string q k true h found =
          let old = is.behind q k found in
          let first_is : Some old.first ≡ Some (length prefix) = sym old.by_fingerprint ∙ here_of (fingerprint_of q) h in
          let same : old.first ≡ length prefix = cc in
          let after_it = old.behind in
          let within = old.within in
          absurd (omega (arith, after_it, within, longer, same))
      of_string q k false h found =
          other_before_this after q k found
          (λ e. let same : m ≡ fingerprint_of q = of ∙ ap fingerprint_of (last_other q k found e) in absurd (grind arith))
          (λ p lt there. stays (fingerprint_of q) h ∙ there)

  -- ---- where an earlier string has its fingerprint

  module _ (later : is_place (place_by_fingerprint places.by_fingerprint (fingerprint_of s)) (length prefix) ≡ false) where
    elsewhere : (m p : ℕ) → place_by_fingerprint places.by_fingerprint m ≡ Some p → p ≡ length prefix → ⊥
    elsewhere m p h e =
        let there : place_by_fingerprint places.by_fingerprint (fingerprint_of s) ≡ Some (length prefix) =
        ap (place_by_fingerprint places.by_fingerprint) (fingerprint_last m p h e) ∙ h ∙ ap Some e in
        let same : is_place (Some (length prefix)) (length prefix) ≡ false = sym (ap (λ o. is_place o (length prefix)) there) ∙ later in
        absurd (grind arith)

    fingerprints_prefix : (m p : ℕ) → place_by_fingerprint places.by_fingerprint m ≡ Some p → HasFingerprint prefix m p
    fingerprints_prefix m p h = before_this m p h (elsewhere m p h)

    firsts : (q : List ℕ) (p : ℕ) → place_by_fingerprint places.by_fingerprint (fingerprint_of q) ≡ Some p → p < length prefix
    firsts q p h = (fingerprints_prefix (fingerprint_of q) p h).within

    -- the string itself, by what the index has of it
    itself : (o other : Option ℕ) → place_by_fingerprint places.by_fingerprint (fingerprint_of s) ≡ o → is_place other (length prefix) ≡ false
        → place_by (prefix ++ s ∷ []) s o other ≡ option_or (first_place prefix s) (Some (length prefix))
        → place_by (prefix ++ s ∷ []) s o other ≡ first_place prefix s
    itself None other h no_end e = earlier (first_place prefix s) None (length prefix) e refl
    itself (Some p) other h no_end e =
        earlier (first_place prefix s) (cond (bytes_eq (get_or (prefix ++ s ∷ []) p []) s) (Some p) other) (length prefix) e
        (by (bytes_eq (get_or (prefix ++ s ∷ []) p []) s))
      where
        by : (b : Bool) → is_place (cond b (Some p) other) (length prefix) ≡ false
        by true = not_here p (length prefix) (firsts s p h)
        by false = no_end

    -- nothing of it is kept
    pub forgotten_nothing : is_place (found_at places.others s) (length prefix) ≡ false → IsPlaced prefix places
    forgotten_nothing no_end = record {
      at = λ q. by q (bytes_eq s q) refl;
      fingerprints = fingerprints_prefix;
      behind = λ q k h. other_before_this places.by_fingerprint q k h (not_last q k h) (λ p lt m. m);
    }
      where
        not_last : (q : List ℕ) (k : ℕ) → found_at places.others q ≡ Some k → k ≡ length prefix → ⊥
        not_last q k h e =
            let there : found_at places.others s ≡ Some (length prefix) = ap (found_at places.others) (last_other q k h e) ∙ h ∙ ap Some e in
            let same : is_place (Some (length prefix)) (length prefix) ≡ false = sym (ap (λ o. is_place o (length prefix)) there) ∙ no_end in
            absurd (grind arith)

        of_itself : placed_at (prefix ++ s ∷ []) places s ≡ first_place prefix s
        of_itself =
            itself (place_by_fingerprint places.by_fingerprint (fingerprint_of s)) (found_at places.others s) refl no_end
            (whole_same s ((bytes_eq-Decides s s).1 refl))

        by : (q : List ℕ) (b : Bool) → bytes_eq s q ≡ b → placed_at prefix places q ≡ first_place prefix q
        by q false h = place_prefix q _ _ (firsts q) ∙ whole_apart q h
        by q true h =
            place_prefix q _ _ (firsts q)
            ∙ subst (λ l. placed_at (prefix ++ s ∷ []) places l ≡ first_place prefix l) ((bytes_eq-Decides s q).0 h) of_itself

    -- it stands among the others
    pub forgotten_other : (after : BTreeMap (Vec ℕ) ℕ) → is_place (found_at places.others s) (length prefix) ≡ true
        → tree.UpdatesBy (λ x y. slice_cmp nat_cmp x.items y.items) (λ k. slice_cmp nat_cmp s k.items) places.others after None
        → IsPlaced prefix (record { by_fingerprint = places.by_fingerprint; others = after })
    forgotten_other after at_end updates = record {
      at = λ q. by q (bytes_eq s q) refl;
      fingerprints = fingerprints_prefix;
      behind = λ q k h. of_string q k (bytes_eq s q) refl h;
    }
      where
        here : found_at places.others s ≡ Some (length prefix)
        here = by_place (found_at places.others s) at_end
          where
            by_place : (o : Option ℕ) → is_place o (length prefix) ≡ true → o ≡ Some (length prefix)
            by_place None h = cc
            by_place (Some p) h = let same : p ≡ length prefix = grind arith in ap Some same

        gone : (q : List ℕ) → bytes_eq s q ≡ true → found_at after q ≡ None
        gone q h = found_there s places.others after None updates q h

        stays : (q : List ℕ) → bytes_eq s q ≡ false → found_at after q ≡ found_at places.others q
        stays q h = found_elsewhere s places.others after None updates q h

        -- its place before, and its place now
        forgets : (o : Option ℕ) → place_by_fingerprint places.by_fingerprint (fingerprint_of s) ≡ o
            → place_by (prefix ++ s ∷ []) s o (Some (length prefix)) ≡ option_or (first_place prefix s) (Some (length prefix))
            → place_by (prefix ++ s ∷ []) s o None ≡ first_place prefix s
        forgets None h e = earlier (first_place prefix s) None (length prefix) e refl
        forgets (Some p) h e = by_first (bytes_eq (get_or (prefix ++ s ∷ []) p []) s) e
          where
            by_first : (b : Bool) → cond b (Some p) (Some (length prefix)) ≡ option_or (first_place prefix s) (Some (length prefix))
                → cond b (Some p) None ≡ first_place prefix s
            by_first true t = earlier (first_place prefix s) (Some p) (length prefix) t (not_here p (length prefix) (firsts s p h))
            by_first false t = sym (nowhere (first_place prefix s) (length prefix) (low s) t)

        of_itself : place_by (prefix ++ s ∷ []) s (place_by_fingerprint places.by_fingerprint (fingerprint_of s)) None ≡ first_place prefix s
        of_itself =
            forgets (place_by_fingerprint places.by_fingerprint (fingerprint_of s)) refl
            (sym (ap (place_by (prefix ++ s ∷ []) s (place_by_fingerprint places.by_fingerprint (fingerprint_of s))) here)
            ∙ whole_same s ((bytes_eq-Decides s s).1 refl))

        by : (q : List ℕ) (b : Bool) → bytes_eq s q ≡ b
            → place_by prefix q (place_by_fingerprint places.by_fingerprint (fingerprint_of q)) (found_at after q) ≡ first_place prefix q
        by q true h =
            ap (place_by prefix q (place_by_fingerprint places.by_fingerprint (fingerprint_of q))) (gone q h)
            ∙ place_prefix q _ None (firsts q)
            ∙ subst (λ l. place_by (prefix ++ s ∷ []) l (place_by_fingerprint places.by_fingerprint (fingerprint_of l)) None ≡ first_place prefix l)
            ((bytes_eq-Decides s q).0 h) of_itself
        by q false h =
            ap (place_by prefix q (place_by_fingerprint places.by_fingerprint (fingerprint_of q))) (stays q h)
            ∙ place_prefix q _ _ (firsts q) ∙ whole_apart q h

        of_string : (q : List ℕ) (k : ℕ) (b : Bool) → bytes_eq s q ≡ b → found_at after q ≡ Some k → IsOther prefix places.by_fingerprint q k
        of_string q k true h found = let none = gone q h in cc
        of_string q k false h found =
            let before = sym (stays q h) ∙ found in
            other_before_this places.by_fingerprint q k before (apart q k h before) (λ p lt m. m)
          where
            apart : (q : List ℕ) (k : ℕ) → bytes_eq s q ≡ false → found_at places.others q ≡ Some k → k ≡ length prefix → ⊥
            apart q k h before e = let same = (bytes_eq-Decides s q).1 (last_other q k before e) in cc
