-- Revealed secrets fit the digests that a script asks for, and have the committed lengths.
use Rattle.std.proofs.Common.{◌≡◌, ℕ, ◌-◌, List, [], ◌∷◌, ◌++◌, length, map, Bool, true, false, not, Option, Some, None, refl, sym, ap, ◌∙◌, subst, inl, inr}
use Rattle.std.specs.Prelude.{◌==◌, ◌&&◌, ◌||◌, is_some, if◌then◌else◌}
use Rattle.std.specs.Option.{option_map}
use Rattle.std.specs.Str.{bytes_eq}
use Rattle.std.proofs.lemmas.Bool.{and_parts, and_from, or_left, or_right, or_cases, both_ways, not-true, eqb-true}
use Rattle.spec_data.specs.Lists.{is_among, are_different, look_up}
use Rattle.spec_terms.specs.Precondition.{name_in, secrets, secrets_of, names_of_party}
use Rattle.spec_terms.specs.declared.pre.Pre.{Pre}
use Rattle.spec_terms.specs.declared.pre.Pre.TheVariants.{Persistent, Volatile, Secret}
use Rattle.spec_calculus.specs.declared.parts.Revealed.{Revealed}
use Rattle.spec_calculus.specs.Configuration.{Configuration}
use Rattle.spec_calculus.specs.Branches as calculus
use Rattle.spec_calculus.specs.Branches.{are_revealed, is_revealed_by, length_by, known_length, length_at}
use Rattle.spec_compiler.specs.Scripts.{digest_of}
use Rattle.spec_compiler.specs.Instance.{Instance}
use Rattle.spec_compiler.specs.Statements.{are_secrets, secret_lengths}
use Rattle.spec_run.specs.Setup.{Setup, is_honest, held_secret}
use Rattle.spec_run.specs.World.{Promise, World, digests_at}
use Rattle.spec_run.specs.Committing.{is_secret_long}
use Rattle.spec_run.specs.Revealing.{fits, fitting}
use Rattle.spec_run.specs.Secrets.{digest_at, is_shown, secret_size, length_in_run}
use Rattle.spec_run.specs.Firing.{shown_string, shown_strings, first_unshown}
use Rattle.theory_calculus.proofs.Names.{bytes-true, bytes_refl}
use Rattle.theory_calculus.specs.Members.{Is_in}
use Rattle.theory_world.proofs.Hashed.{any_found}
use Rattle.theory_run.specs.KeptSecrets.{KeptSecrets, is_own}
use Rattle.theory_run.proofs.Facts.KeptSecrets.{Begins, length_at-by}
use Rattle.theory_run.proofs.Halting.Halts.{found}

-- ---- whose a name is

named_by : (name party : List ℕ) (pre : List Pre) → is_among name (names_of_party party (secrets pre)) ≡ true → is_among name (map name_in pre) ≡ true
named_by name party [] h = cc
named_by name party (Persistent p v n ∷ pre) h = or_right (bytes_eq n name) _ (named_by name party pre h)
named_by name party (Volatile p v n ∷ pre) h = or_right (bytes_eq n name) _ (named_by name party pre h)
named_by name party (Secret p n ∷ pre) h = by_test (bytes_eq p party) h (named_by name party pre)
  where
    by_test : (b : Bool) → is_among name (if b then n ∷ names_of_party party (secrets pre) else names_of_party party (secrets pre)) ≡ true
        → (is_among name (names_of_party party (secrets pre)) ≡ true → is_among name (map name_in pre) ≡ true)
        → (bytes_eq n name || is_among name (map name_in pre)) ≡ true
    by_test true q ih = elim (or_cases (bytes_eq n name) (is_among name (names_of_party party (secrets pre))) q) [
      | inl x ↦ or_left _ _ x
      | inr x ↦ or_right (bytes_eq n name) _ (ih x)
    ]
    by_test false q ih = or_right (bytes_eq n name) _ (ih q)

-- a name of one precondition is of one party
one_owner : (name party owner : List ℕ) (pre : List Pre) → are_different (map name_in pre) ≡ true → look_up name (secrets pre) ≡ Some owner
    → is_among name (names_of_party party (secrets pre)) ≡ true → party ≡ owner
one_owner name party owner [] d l h = cc
one_owner name party owner (Persistent p v n ∷ pre) d l h = one_owner name party owner pre (and_parts _ (are_different (map name_in pre)) d).1 l h
one_owner name party owner (Volatile p v n ∷ pre) d l h = one_owner name party owner pre (and_parts _ (are_different (map name_in pre)) d).1 l h
one_owner name party owner (Secret p n ∷ pre) d l h =
    let q = and_parts (not (is_among n (map name_in pre))) (are_different (map name_in pre)) d in
    by_tests (bytes_eq n name) (bytes_eq p party) refl refl l h (not-true _ q.0) (one_owner name party owner pre q.1)
  where
    by_tests : (b c : Bool) → bytes_eq n name ≡ b → bytes_eq p party ≡ c → (if b then Some p else look_up name (secrets pre)) ≡ Some owner
        → is_among name (if c then n ∷ names_of_party party (secrets pre) else names_of_party party (secrets pre)) ≡ true → is_among n (map name_in pre) ≡ false
        → (look_up name (secrets pre) ≡ Some owner → is_among name (names_of_party party (secrets pre)) ≡ true → party ≡ owner) → party ≡ owner
    by_tests true true e f x y a ih = let z : p ≡ owner = cc in sym (bytes-true p party f) ∙ z
    by_tests true false e f x y a ih =
        let m = bytes-true n name e in
        absurd (both_ways _ a (subst (λ t. is_among t (map name_in pre) ≡ true) (sym m) (named_by name party pre y)))
    by_tests false true e f x y a ih = ih x (elim (or_cases (bytes_eq n name) (is_among name (names_of_party party (secrets pre))) y) [
      | inl u ↦ absurd (both_ways _ e u)
      | inr u ↦ u
    ])
    by_tests false false e f x y a ih = ih x y

-- ---- the digest of a name

found_before : (ds es : List (List ℕ × List ℕ)) (name d : List ℕ) → look_up name ds ≡ Some d → digest_of (ds ++ es) name ≡ d
found_before [] es name d h = cc
found_before (x ∷ ds) es name d h = by_test (bytes_eq (x.0) name) h (found_before ds es name d)
  where
    by_test : (b : Bool) → (if b then Some (x.1) else look_up name ds) ≡ Some d → (look_up name ds ≡ Some d → digest_of (ds ++ es) name ≡ d)
        → (if b then x.1 else digest_of (ds ++ es) name) ≡ d
    by_test true q ih = cc
    by_test false q ih = ih q

found_behind : (ds es : List (List ℕ × List ℕ)) (name : List ℕ) → look_up name ds ≡ None → digest_of (ds ++ es) name ≡ digest_of es name
found_behind [] es name h = refl
found_behind (x ∷ ds) es name h = by_test (bytes_eq (x.0) name) h (found_behind ds es name)
  where
    by_test : (b : Bool) → (if b then Some (x.1) else look_up name ds) ≡ None
        → (look_up name ds ≡ None → digest_of (ds ++ es) name ≡ digest_of es name) → (if b then x.1 else digest_of (ds ++ es) name) ≡ digest_of es name
    by_test true q ih = cc
    by_test false q ih = ih q

-- where only the owner's commitment has the name, its digest is the owner's
digest_is : (k : ℕ) (owner name d : List ℕ) (ps : List Promise)
    → ((p : Promise) → Is_in p ps → p.contract ≡ k → is_some (look_up name p.digests) ≡ true → p.party ≡ owner)
    → digest_at ps (record { contract = k; party = owner; secret = name }) ≡ Some d → digest_of (digests_at ps k) name ≡ d
digest_is k owner name d [] own h = cc
digest_is k owner name d (p ∷ ps) own h = by_tests (p.contract == k) (bytes_eq p.party owner) refl refl h (digest_is k owner name d ps (λ q i. own q (inr i)))
  where
    by_name : (o : Option (List ℕ)) → look_up name p.digests ≡ o → (p.contract == k) ≡ true → bytes_eq p.party owner ≡ false
        → digest_of (digests_at ps k) name ≡ d → digest_of (p.digests ++ digests_at ps k) name ≡ d
    by_name None e a b ih = found_behind p.digests (digests_at ps k) name e ∙ ih
    by_name (Some x) e a b ih =
        let z = own p (inl refl) (eqb-true p.contract k a) (ap is_some e) in
        absurd (both_ways _ b (subst (λ y. bytes_eq p.party y ≡ true) z (bytes_refl p.party)))

    by_tests : (a b : Bool) → (p.contract == k) ≡ a → bytes_eq p.party owner ≡ b
        → (if a && b then look_up name p.digests else digest_at ps (record { contract = k; party = owner; secret = name })) ≡ Some d
        → (digest_at ps (record { contract = k; party = owner; secret = name }) ≡ Some d → digest_of (digests_at ps k) name ≡ d)
        → digest_of (if a then p.digests ++ digests_at ps k else digests_at ps k) name ≡ d
    by_tests true true e f x ih = found_before p.digests (digests_at ps k) name d x
    by_tests true false e f x ih = by_name (look_up name p.digests) refl e f (ih x)
    by_tests false true e f x ih = ih x
    by_tests false false e f x ih = ih x

-- ---- what is found

module _ (s : Setup) (z : List (List ℕ)) (g : Configuration) (w : World) (secrets_kept : KeptSecrets s z g w) (begins : Begins z w.posted) where
  -- the length in the run is that of the string that is shown
  length_is : (owner name d t : List ℕ) → (is_honest s owner ≡ true → is_own s w.hashed (held_secret s owner name) (Some d) ≡ true)
      → fitting s w.posted d ≡ Some t → length_in_run s z owner name d ≡ Some (length t - 16)
  length_is owner name d t own f = by_honest (is_honest s owner) refl
    where
      ft : (fits s d t ≡ true) × (is_among t w.posted ≡ true)
      ft = found (fits s d) w.posted t f

      by_held : (o : Option (List ℕ)) → is_own s w.hashed o (Some d) ≡ true → option_map secret_size o ≡ Some (length t - 16)
      by_held None h = cc
      by_held (Some u) h =
          let p = and_parts (bytes_eq (s.hash u) d && is_secret_long u) (is_among u w.hashed) h in
          let q = and_parts (bytes_eq (s.hash u) d) (is_secret_long u) p.0 in
          let r = and_parts (is_secret_long t) (bytes_eq (s.hash t) d) ft.0 in
          let e = secrets_kept.clear.one u t p.1 (secrets_kept.heard t ft.1) (bytes-true (s.hash u) d q.0 ∙ sym (bytes-true (s.hash t) d r.1)) in
          ap (λ x. Some (secret_size x)) e

      by_honest : (b : Bool) → is_honest s owner ≡ b
          → (if b then option_map secret_size (held_secret s owner name) else option_map secret_size (fitting s z d)) ≡ Some (length t - 16)
      by_honest true h = by_held (held_secret s owner name) (own h)
      by_honest false h = ap (option_map secret_size) (begins.first (fits s d) (any_found (fits s d) w.posted (ap is_some f)) ∙ f)

  module _ (st : Instance) (k : ℕ) (hashes : st.hashes ≡ digests_at w.promises k) (apart : are_different (map name_in st.advert.pre) ≡ true)
      (own : (p : Promise) → Is_in p w.promises → p.contract ≡ k
      → (name : List ℕ) → is_some (look_up name p.digests) ≡ true → is_among name (secrets_of p.party st.advert.pre) ≡ true) where
    -- a secret that is shown
    pub record ShownSecret (name : List ℕ) : Type 0 where
      pub string : List ℕ
      pub found : shown_string s w st name ≡ Some string
      pub fit : fits s (digest_of st.hashes name) string ≡ true
      pub size : calculus.secret_length g.committed k st.advert.pre name ≡ length string - 16

    shown_secret : (name : List ℕ) → is_revealed_by g.revealed k (look_up name (secrets st.advert.pre)) name ≡ true → ShownSecret name
    shown_secret name h = by_owner (look_up name (secrets st.advert.pre)) refl h
      where
        by_string : (owner d : List ℕ) → look_up name (secrets st.advert.pre) ≡ Some owner
            → digest_at w.promises (record { contract = k; party = owner; secret = name }) ≡ Some d → (o : Option (List ℕ))
            → fitting s w.posted d ≡ o → is_some o ≡ true → ShownSecret name
        by_string owner d l e None f q = cc
        by_string owner d l e (Some t) f q =
            let x : Revealed = record { contract = k; party = owner; secret = name } in
            let di : digest_of st.hashes name ≡ d =
            ap (λ hs. digest_of hs name) hashes
            ∙ digest_is k owner name d w.promises (λ p i c n. one_owner name p.party owner st.advert.pre apart l (own p i c name n)) e in
            let len = length_is owner name d t (λ a. subst (λ o. is_own s w.hashed (held_secret s owner name) o ≡ true) e (secrets_kept.own x a)) f in
            record {
              string = t;
              found = ap (fitting s w.posted) di ∙ f;
              fit = subst (λ y. fits s y t ≡ true) (sym di) (found (fits s d) w.posted t f).0;
              size = ap (λ o. length_by g.committed k o name) l ∙ ap (λ cs. known_length (length_at cs k owner name)) secrets_kept.lengths
                  ∙ ap known_length (length_at-by s z x w.promises) ∙ ap (λ o. known_length (option_map (length_in_run s z owner name) o)) e
                  ∙ ap (λ o. known_length (Some o)) len;
            }

        by_digest : (owner : List ℕ) → look_up name (secrets st.advert.pre) ≡ Some owner → (o : Option (List ℕ))
            → digest_at w.promises (record { contract = k; party = owner; secret = name }) ≡ o → is_shown s w.posted o ≡ true → ShownSecret name
        by_digest owner l None e q = cc
        by_digest owner l (Some d) e q = by_string owner d l e (fitting s w.posted d) refl q

        by_owner : (o : Option (List ℕ)) → look_up name (secrets st.advert.pre) ≡ o → is_revealed_by g.revealed k o name ≡ true → ShownSecret name
        by_owner None l q = cc
        by_owner (Some owner) l q =
            let x : Revealed = record { contract = k; party = owner; secret = name } in
            by_digest owner l (digest_at w.promises x) refl (sym (secrets_kept.revealed x) ∙ q)

    -- all of a branch
    pub record Unlocked (names : List (List ℕ)) : Type 0 where
      pub shown : first_unshown s w st names ≡ None
      pub fit : are_secrets s.hash (shown_strings s w st names) (map (digest_of st.hashes) names) ≡ true
      pub sizes : calculus.secret_lengths g.committed k st.advert.pre names ≡ secret_lengths names (shown_strings s w st names)

    pub unlocked : (names : List (List ℕ)) → are_revealed g.revealed k st.advert.pre names ≡ true → Unlocked names
    unlocked [] h = record { shown = refl; fit = refl; sizes = refl }
    unlocked (name ∷ names) h =
        let p = and_parts (is_revealed_by g.revealed k (look_up name (secrets st.advert.pre)) name) (are_revealed g.revealed k st.advert.pre names) h in
        let a = shown_secret name p.0 in
        let ih = unlocked names p.1 in
        let f = a.found in
        let e = a.size in
        let l = ih.sizes in
        record {
          shown = rw f ih.shown;
          fit = rw f (and_from _ _ a.fit ih.fit);
          sizes = rw f (λ j. (name, e j) ∷ l j);
        }
