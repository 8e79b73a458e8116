-- An honest party's secrets that differ from all that were committed before have new digests, unless strings collide.
use Rattle.std.proofs.Common.{◌≡◌, ℕ, List, [], ◌∷◌, ◌++◌, true, false, not, None, refl, sym, ap, ◌∙◌, subst, inl, inr}
use Rattle.std.specs.Prelude.{is_some}
use Rattle.std.specs.Str.{bytes_eq}
use Rattle.std.proofs.lemmas.Bool.{and_parts, and_from, or_cases, or_from, both_ways, not-true, not_from_false, false_from_ne_true}
use Rattle.spec_data.specs.Lists.{is_among, are_different}
use Rattle.spec_run.specs.Setup.{Setup, held_secret, bytes_or_none}
use Rattle.spec_run.specs.Advertising.{arranged, or_else_this}
use Rattle.spec_run.specs.Committing.{secrets_at, is_secret_long, own_digests, own_strings, not_held, badly_long, used_again}
use Rattle.theory_calculus.proofs.Names.{bytes-true, among-append}
use Rattle.theory_world.proofs.Hashed.{among_head, among_tail}
use Rattle.theory_world.proofs.Once.{digests_in}
use Rattle.theory_run.proofs.Steps.CommitSteps.{own_looked}

-- the bytes of a party's secret
abbrev pub bytes_of : Setup → List ℕ → List ℕ → List ℕ
bytes_of s party name = bytes_or_none (held_secret s party name)

-- the secrets of the first contract are held, of the size of secrets, and differ
pub record HasSecrets (s : Setup) : Type 0 where
  pub held : (party name : List ℕ) → is_among name (secrets_at s 0 party) ≡ true → is_some (held_secret s party name) ≡ true
  pub long : (party name : List ℕ) → is_among name (secrets_at s 0 party) ≡ true → is_secret_long (bytes_of s party name) ≡ true
  pub named : (party : List ℕ) → are_different (secrets_at s 0 party) ≡ true
  pub one : (p n q m : List ℕ) → is_among n (secrets_at s 0 p) ≡ true → is_among m (secrets_at s 0 q) ≡ true
      → bytes_of s p n ≡ bytes_of s q m → (p ≡ q) × (n ≡ m)

-- ---- digests that are new

-- digests that differ, and of which none was seen, aren't used again
used_none : (ds : List (List ℕ × List ℕ)) (seen : List (List ℕ))
    → ((d : List ℕ) → is_among d (digests_in ds) ≡ true → is_among d seen ≡ false) → are_different (digests_in ds) ≡ true
    → used_again seen ds ≡ None
used_none [] seen new apart = refl
used_none (d ∷ ds) seen new apart =
    let p = and_parts (not (is_among (d.1) (digests_in ds))) (are_different (digests_in ds)) apart in
    rw (new (d.1) (among_head (d.1) (digests_in ds)))
    (used_none ds (seen ++ d.1 ∷ []) (λ x i. among-append x seen (d.1 ∷ []) ∙ or_from _ _ (new x (among_tail x (d.1) (digests_in ds) i))
    (or_from _ _ (other x i (not-true _ p.0)) refl)) p.1)
  where
    other : (x : List ℕ) → is_among x (digests_in ds) ≡ true → is_among (d.1) (digests_in ds) ≡ false → bytes_eq (d.1) x ≡ false
    other x i f =
        false_from_ne_true _ (λ t. both_ways _ f (subst (λ y. is_among y (digests_in ds) ≡ true) (sym (bytes-true (d.1) x t)) i))

module _ (s : Setup) (party : List ℕ) where
  -- an own digest is that of an own secret
  pub own_from : (ns : List (List ℕ)) (d : List ℕ) → is_among d (digests_in (own_digests s party ns)) ≡ true
      → (n : List ℕ) × (is_among n ns ≡ true) × (d ≡ s.hash (bytes_of s party n))
  own_from [] d h = cc
  own_from (n ∷ ns) d h =
      elim (or_cases (bytes_eq (s.hash (bytes_of s party n)) d) (is_among d (digests_in (own_digests s party ns))) h) [
        | inl a ↦ (n, among_head n ns, sym (bytes-true (s.hash (bytes_of s party n)) d a))
        | inr b ↦ (let r = own_from ns d b in (r.0, among_tail r.0 n ns r.1, r.2))
      ]

  pub own_heard : (n : List ℕ) (ns : List (List ℕ)) → is_among n ns ≡ true → is_among (bytes_of s party n) (own_strings s party ns) ≡ true
  own_heard n [] h = cc
  own_heard n (m ∷ ns) h = elim (or_cases (bytes_eq m n) (is_among n ns) h) [
    | inl q ↦ subst (λ y. is_among (bytes_of s party y) (own_strings s party (m ∷ ns)) ≡ true) (bytes-true m n q)
        (among_head (bytes_of s party m) (own_strings s party ns))
    | inr q ↦ among_tail (bytes_of s party n) (bytes_of s party m) (own_strings s party ns) (own_heard n ns q)
  ]

  -- in the order of the secrets they are the same
  own_arranged : (names ns : List (List ℕ)) → ((n : List ℕ) → is_among n ns ≡ true → is_among n names ≡ true)
      → arranged [] ns (own_digests s party names) ≡ own_digests s party ns
  own_arranged names [] h = refl
  own_arranged names (n ∷ ns) h =
      let e = own_looked s party n names (h n (among_head n ns)) in
      let ih = own_arranged names ns (λ m i. h m (among_tail m n ns i)) in
      λ j. (n, or_else_this [] (e j)) ∷ ih j

  pub own_in_order : (names : List (List ℕ)) → arranged [] names (own_digests s party names) ≡ own_digests s party names
  own_in_order names = own_arranged names names (λ n i. i)

  -- where all are held, and of the size of secrets
  pub all_held : (ns : List (List ℕ)) → ((n : List ℕ) → is_among n ns ≡ true → is_some (held_secret s party n) ≡ true)
      → not_held s party ns ≡ None
  all_held [] h = refl
  all_held (n ∷ ns) h = rw (h n (among_head n ns)) (all_held ns (λ m i. h m (among_tail m n ns i)))

  pub all_long : (ns : List (List ℕ)) → ((n : List ℕ) → is_among n ns ≡ true → is_secret_long (bytes_of s party n) ≡ true)
      → badly_long s party ns ≡ None
  all_long [] h = refl
  all_long (n ∷ ns) h = rw (h n (among_head n ns)) (all_long ns (λ m i. h m (among_tail m n ns i)))

  module _ (has : HasSecrets s)
      (apart : (n m : List ℕ) → is_among n (secrets_at s 0 party) ≡ true → is_among m (secrets_at s 0 party) ≡ true
      → s.hash (bytes_of s party n) ≡ s.hash (bytes_of s party m) → bytes_of s party n ≡ bytes_of s party m) where
    own_different : (ns : List (List ℕ)) → ((n : List ℕ) → is_among n ns ≡ true → is_among n (secrets_at s 0 party) ≡ true)
        → are_different ns ≡ true → are_different (digests_in (own_digests s party ns)) ≡ true
    own_different [] sub h = refl
    own_different (n ∷ ns) sub h =
        let p = and_parts (not (is_among n ns)) (are_different ns) h in
        let new = false_from_ne_true (is_among (s.hash (bytes_of s party n)) (digests_in (own_digests s party ns))) (λ t.
        let r = own_from ns (s.hash (bytes_of s party n)) t in
        let here = sub n (among_head n ns) in
        let there = sub r.0 (among_tail r.0 n ns r.1) in
        let same = (has.one party n party r.0 here there (apart n r.0 here there r.2)).1 in
        both_ways _ (not-true _ p.0) (subst (λ x. is_among x ns ≡ true) (sym same) r.1)) in
        and_from _ _ (not_from_false _ new) (own_different ns (λ m i. sub m (among_tail m n ns i)) p.1)

    -- none of a party's own digests is used again
    pub own_new : (seen : List (List ℕ))
        → ((n : List ℕ) → is_among n (secrets_at s 0 party) ≡ true → is_among (s.hash (bytes_of s party n)) seen ≡ false)
        → used_again seen (own_digests s party (secrets_at s 0 party)) ≡ None
    own_new seen new =
        used_none (own_digests s party (secrets_at s 0 party)) seen
        (λ d i. let r = own_from (secrets_at s 0 party) d i in ap (λ x. is_among x seen) r.2 ∙ new r.0 r.1)
        (own_different (secrets_at s 0 party) (λ n i. i) (has.named party))
