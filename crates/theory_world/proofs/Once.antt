-- No digest is committed twice.
use Rattle.std.proofs.Common.{◌≡◌, ℕ, List, [], ◌∷◌, ◌++◌, map, Bool, true, false, Some, None, refl, sym, ap, subst, ◌∙◌, arith, append_assoc, inl, inr}
use Rattle.std.specs.Prelude.{if◌then◌else◌, ◌==◌, ◌⊎◌, is_some}
use Rattle.std.specs.Str.{bytes_eq}
use Rattle.std.proofs.lemmas.Bool.{and_parts, or_parts, eqb-true, both_ways}
use Rattle.spec_data.specs.Lists.{is_among, look_up}
use Rattle.spec_calculus.specs.declared.parts.Revealed.{Revealed}
use Rattle.spec_run.specs.World.{Promise, is_promise_of}
use Rattle.spec_run.specs.Committing.{used_digests, used_again}
use Rattle.spec_run.specs.Secrets.{digest_at}
use Rattle.theory_calculus.proofs.Names.{bytes-true, bytes_refl, among-append}
use Rattle.theory_world.proofs.Hashed.{among_left, among_right, among_head}
use Rattle.theory_world.specs.KeptApart.{Once}

abbrev pub digests_in : List (List ℕ × List ℕ) → List (List ℕ)
digests_in ds = map (λ d. d.1) ds

pub used-append : (xs ys : List Promise) → used_digests (xs ++ ys) ≡ used_digests xs ++ used_digests ys
used-append [] ys = refl
used-append (x ∷ xs) ys =
    ap (λ ds. digests_in x.digests ++ ds) (used-append xs ys) ∙ sym (append_assoc (digests_in x.digests) (used_digests xs) (used_digests ys))

-- what a look-up gives is among the digests
pub looked_up : (ds : List (List ℕ × List ℕ)) (n d : List ℕ) → look_up n ds ≡ Some d → is_among d (digests_in ds) ≡ true
looked_up [] n d h = cc
looked_up (p ∷ ds) n d h =
    let r : bytes_eq d d ≡ true = bytes_refl d in
    let e : Some (p.1) ≡ Some d → bytes_eq (p.1) d ≡ true = λ q. let k : p.1 ≡ d = cc in rw k r in
    grind (arith, e, looked_up ds n d)

pub at_used : (ps : List Promise) (x : Revealed) (d : List ℕ) → digest_at ps x ≡ Some d → is_among d (used_digests ps) ≡ true
at_used [] x d h = cc
at_used (p ∷ ps) x d h = by_test (is_promise_of x.contract x.party p) h (at_used ps x d)
  where
    by_test : (b : Bool) → (if b then look_up x.secret p.digests else digest_at ps x) ≡ Some d
        → (digest_at ps x ≡ Some d → is_among d (used_digests ps) ≡ true) → is_among d (digests_in p.digests ++ used_digests ps) ≡ true
    by_test true k ih = among_left d (digests_in p.digests) (used_digests ps) (looked_up p.digests x.secret d k)
    by_test false k ih = among_right d (digests_in p.digests) (used_digests ps) (ih k)

pub at_push : (ps : List Promise) (p : Promise) (x : Revealed) (d : List ℕ) → digest_at (ps ++ p ∷ []) x ≡ Some d
    → (digest_at ps x ≡ Some d) ⊎ (digest_at (p ∷ []) x ≡ Some d)
at_push [] p x d h = inr h
at_push (e ∷ ps) p x d h = grind (arith, at_push ps p x d)

-- a digest that isn't used again is none of those before
pub not_before : (seen : List (List ℕ)) (ds : List (List ℕ × List ℕ)) (n d : List ℕ) → is_some (used_again seen ds) ≡ false → look_up n ds
    ≡ Some d → is_among d seen ≡ false
not_before seen [] n d h k = cc
not_before seen (p ∷ ds) n d h k = by_test (is_among (p.1) seen) refl h (not_before (seen ++ p.1 ∷ []) ds n d)
  where
    later : is_among d (seen ++ p.1 ∷ []) ≡ false → is_among d seen ≡ false
    later q = (or_parts (is_among d seen) (is_among d (p.1 ∷ [])) (sym (among-append d seen (p.1 ∷ [])) ∙ q)).0

    by_name : (b : Bool) → is_among (p.1) seen ≡ false → (if b then Some (p.1) else look_up n ds) ≡ Some d
        → (look_up n ds ≡ Some d → is_among d (seen ++ p.1 ∷ []) ≡ false) → is_among d seen ≡ false
    by_name true e q ih = let j : p.1 ≡ d = cc in subst (λ y. is_among y seen ≡ false) j e
    by_name false e q ih = later (ih q)

    by_test : (b : Bool) → is_among (p.1) seen ≡ b → is_some (if b then Some (p.0) else used_again (seen ++ p.1 ∷ []) ds) ≡ false
        → (is_some (used_again (seen ++ p.1 ∷ []) ds) ≡ false → look_up n ds ≡ Some d → is_among d (seen ++ p.1 ∷ []) ≡ false) → is_among d seen ≡ false
    by_test true e q ih = cc
    by_test false e q ih = by_name (bytes_eq (p.0) n) e k (ih q)

-- and it stands in one place of the row
pub one_name : (seen : List (List ℕ)) (ds : List (List ℕ × List ℕ)) (n m d : List ℕ) → is_some (used_again seen ds) ≡ false → look_up n ds
    ≡ Some d → look_up m ds ≡ Some d → n ≡ m
one_name seen [] n m d h j k = cc
one_name seen (p ∷ ds) n m d h j k = by_test (is_among (p.1) seen) h (one_name (seen ++ p.1 ∷ []) ds n m d)
  where
    here : is_among (p.1) (seen ++ p.1 ∷ []) ≡ true
    here = among_right (p.1) seen (p.1 ∷ []) (among_head (p.1) [])

    collision_with : is_some (used_again (seen ++ p.1 ∷ []) ds) ≡ false → (x : List ℕ) → look_up x ds ≡ Some d → p.1 ≡ d → ⊥
    collision_with q x l e = both_ways _ (not_before (seen ++ p.1 ∷ []) ds x d q l) (subst (λ y. is_among y (seen ++ p.1 ∷ []) ≡ true) e here)

    by_names : (a b : Bool) → bytes_eq (p.0) n ≡ a → bytes_eq (p.0) m ≡ b → (if a then Some (p.1) else look_up n ds) ≡ Some d
        → (if b then Some (p.1) else look_up m ds) ≡ Some d
        → is_some (used_again (seen ++ p.1 ∷ []) ds) ≡ false → (look_up n ds ≡ Some d → look_up m ds ≡ Some d → n ≡ m) → n ≡ m
    by_names true true ea eb j k q ih = sym (bytes-true (p.0) n ea) ∙ bytes-true (p.0) m eb
    by_names true false ea eb j k q ih = let e : p.1 ≡ d = cc in absurd (collision_with q m k e)
    by_names false true ea eb j k q ih = let e : p.1 ≡ d = cc in absurd (collision_with q n j e)
    by_names false false ea eb j k q ih = ih j k

    by_test : (b : Bool) → is_some (if b then Some (p.0) else used_again (seen ++ p.1 ∷ []) ds) ≡ false
        → (is_some (used_again (seen ++ p.1 ∷ []) ds) ≡ false → look_up n ds ≡ Some d → look_up m ds ≡ Some d → n ≡ m) → n ≡ m
    by_test true q ih = cc
    by_test false q ih = by_names (bytes_eq (p.0) n) (bytes_eq (p.0) m) refl refl j k q (ih q)

-- what the look-up in one commitment says
pub new_at : (p : Promise) (x : Revealed) (d : List ℕ) → digest_at (p ∷ []) x ≡ Some d → (x.contract ≡ p.contract) × (x.party ≡ p.party)
    × (look_up x.secret p.digests ≡ Some d)
new_at p x d h = by_test (is_promise_of x.contract x.party p) refl h
  where
    by_test : (b : Bool) → is_promise_of x.contract x.party p ≡ b → (if b then look_up x.secret p.digests else None) ≡ Some d
        → (x.contract ≡ p.contract) × (x.party ≡ p.party) × (look_up x.secret p.digests ≡ Some d)
    by_test true e k =
        let a = and_parts (p.contract == x.contract) (bytes_eq p.party x.party) e in
        (sym (eqb-true _ _ a.0), sym (bytes-true p.party x.party a.1), k)
    by_test false e k = cc

-- a commitment whose look-ups are those of digests that weren't used
pub once_push : (ps : List Promise) (p : Promise) (ds : List (List ℕ × List ℕ)) → Once ps → is_some (used_again (used_digests ps) ds) ≡ false
    → ((n d : List ℕ) → look_up n p.digests ≡ Some d → look_up n ds ≡ Some d) → Once (ps ++ p ∷ [])
once_push ps p ds o r f = record { one = λ x y d h k. by_case x y d (at_push ps p x d h) (at_push ps p y d k) }
  where
    fresh : (x : Revealed) (d : List ℕ) → digest_at (p ∷ []) x ≡ Some d → is_among d (used_digests ps) ≡ false
    fresh x d h = not_before (used_digests ps) ds x.secret d r (f x.secret d (new_at p x d h).2)

    by_case : (x y : Revealed) (d : List ℕ)
        → (digest_at ps x ≡ Some d) ⊎ (digest_at (p ∷ []) x ≡ Some d) → (digest_at ps y ≡ Some d) ⊎ (digest_at (p ∷ []) y ≡ Some d) → x ≡ y
    by_case x y d (inl a) (inl b) = o.one x y d a b
    by_case x y d (inl a) (inr b) = absurd (both_ways _ (fresh y d b) (at_used ps x d a))
    by_case x y d (inr a) (inl b) = absurd (both_ways _ (fresh x d a) (at_used ps y d b))
    by_case x y d (inr a) (inr b) =
        let i = new_at p x d a in
        let j = new_at p y d b in
        let e = i.0 ∙ sym j.0 in
        let g = i.1 ∙ sym j.1 in
        let h = one_name (used_digests ps) ds x.secret y.secret d r (f x.secret d i.2) (f y.secret d j.2) in
        λ k. record { contract = e k; party = g k; secret = h k }
