-- What every run keeps of secrets, and the steps that reveal.
use Rattle.std.proofs.Common.{◌≡◌, ℕ, List, [], ◌∷◌, ◌++◌, map, Bool, true, false, not, Option, Some, None, refl, ap, ◌∙◌, arith}
use Rattle.std.specs.Prelude.{◌==◌, ◌&&◌, is_some, if◌then◌else◌}
use Rattle.std.specs.List.{find, list_any}
use Rattle.std.specs.Option.{option_map}
use Rattle.std.specs.Str.{bytes_eq}
use Rattle.std.proofs.lemmas.Bool.{and_parts}
use Rattle.spec_data.specs.Lists.{is_among, look_up}
use Rattle.spec_calculus.specs.declared.parts.Committed.{Committed}
use Rattle.spec_calculus.specs.declared.parts.Revealed.{Revealed}
use Rattle.spec_calculus.specs.Configuration.{Configuration}
use Rattle.spec_calculus.specs.Branches.{length_at, is_known}
use Rattle.spec_calculus.specs.Steps.{Legal}
use Rattle.spec_run.specs.Setup.{Setup, is_honest, held_secret}
use Rattle.spec_run.specs.World.{Promise, World, is_promise_of, has_promised}
use Rattle.spec_run.specs.Committing.{secrets_at, is_secret_long, used_digests}
use Rattle.spec_run.specs.Revealing.{fits, fitting}
use Rattle.spec_run.specs.Secrets.{all_secrets, digest_at, is_shown, shown, newly_shown, secret_size, length_in_run, lengths_in_run}
use Rattle.spec_run.specs.Steps.{reveals}
use Rattle.theory_calculus.proofs.Names.{bytes-true}
use Rattle.theory_world.specs.KeptApart.{NoCollision, Once}
use Rattle.theory_world.proofs.Hashed.{find_any, any_found}
use Rattle.theory_run.specs.KeptSecrets.{has_secret, committed_by, is_own}
use Rattle.theory_run.proofs.Facts.Secrets.{different_secrets, has_secret-append, filter-member, different-filter, all-filter, is_known_in}
use Rattle.theory_run.proofs.Facts.Secrets.{legal_reveals}

-- the strings posted so far begin those of the run: the first that passes a test is the first of the run
pub record Begins (z posted : List (List ℕ)) : Type 0 where
  pub first : (p : List ℕ → Bool) → list_any p posted ≡ true → find p z ≡ find p posted

pub begins_within : (z posted : List (List ℕ)) → Begins z posted → (p : List ℕ → Bool) → list_any p posted ≡ true → list_any p z ≡ true
begins_within z posted b p h = any_found p z (ap is_some (b.first p h) ∙ find_any p posted h)

looked_by : (s : Setup) (z : List (List ℕ)) (a n : List ℕ) (ds : List (List ℕ × List ℕ)) → look_up n (lengths_in_run s z a ds)
    ≡ option_map (length_in_run s z a n) (look_up n ds)
looked_by s z a n [] = refl
looked_by s z a n (d ∷ ds) =
    let e : bytes_eq (d.0) n ≡ true → length_in_run s z a (d.0) (d.1) ≡ length_in_run s z a n (d.1) =
    λ k. ap (λ m. length_in_run s z a m (d.1)) (bytes-true (d.0) n k) in
    grind (arith, e, looked_by s z a n ds)

pub length_at-by : (s : Setup) (z : List (List ℕ)) (x : Revealed) (ps : List Promise)
    → length_at (map (committed_by s z) ps) x.contract x.party x.secret ≡ option_map (length_in_run s z x.party x.secret) (digest_at ps x)
length_at-by s z x [] = refl
length_at-by s z x (p ∷ ps) = by_test (is_promise_of x.contract x.party p) refl (length_at-by s z x ps)
  where
    by_test : (b : Bool) → is_promise_of x.contract x.party p ≡ b → length_at (map (committed_by s z) ps) x.contract x.party x.secret
        ≡ option_map (length_in_run s z x.party x.secret) (digest_at ps x)
        → (if b then look_up x.secret (lengths_in_run s z p.party p.digests) else length_at (map (committed_by s z) ps) x.contract x.party x.secret)
        ≡ option_map (length_in_run s z x.party x.secret) (if b then look_up x.secret p.digests else digest_at ps x)
    by_test true e ih =
        let a = bytes-true p.party x.party (and_parts (p.contract == x.contract) (bytes_eq p.party x.party) e).1 in
        ap (λ y. look_up x.secret (lengths_in_run s z y p.digests)) a ∙ looked_by s z x.party x.secret p.digests
    by_test false e ih = ih

module _ (s : Setup) (z : List (List ℕ)) where
  own-is_some : (hs : List (List ℕ)) (o : Option (List ℕ)) (d : List ℕ) → is_own s hs o (Some d) ≡ true → is_some o ≡ true
  own-is_some hs None d h = cc
  own-is_some hs (Some t) d h = refl

  map_some : {A B : Type 0} (f : A → B) (o : Option A) → is_some o ≡ true → is_some (option_map f o) ≡ true
  map_some f None h = cc
  map_some f (Some x) h = refl

  known_by : (a n d : List ℕ) → (is_honest s a ≡ true → is_some (held_secret s a n) ≡ true) → is_some (fitting s z d) ≡ true
      → is_some (length_in_run s z a n d) ≡ true
  known_by a n d e f = by_honest (is_honest s a) refl
    where
      by_honest : (b : Bool) → is_honest s a ≡ b
          → is_some (if b then option_map secret_size (held_secret s a n) else option_map secret_size (fitting s z d)) ≡ true
      by_honest true h = map_some secret_size (held_secret s a n) (e h)
      by_honest false h = map_some secret_size (fitting s z d) f

  -- a secret that is shown has a length
  pub shown_known : (w : World) (x : Revealed) (o : Option (List ℕ))
      → (is_honest s x.party ≡ true → is_own s w.hashed (held_secret s x.party x.secret) o ≡ true) → Begins z w.posted
      → is_shown s w.posted o ≡ true → is_known (option_map (length_in_run s z x.party x.secret) o) ≡ true
  shown_known w x None own within h = cc
  shown_known w x (Some d) own within h =
      known_by x.party x.secret d (λ k. own-is_some w.hashed (held_secret s x.party x.secret) d (own k))
      (find_any (fits s d) z (begins_within z w.posted within (fits s d) (any_found (fits s d) w.posted h)))

  shown-some : (posted : List (List ℕ)) (o : Option (List ℕ)) → is_shown s posted o ≡ true → is_some o ≡ true
  shown-some posted None h = cc
  shown-some posted (Some d) h = refl

  module _ (g : Configuration) (w next : World)
      (was : (x : Revealed) → has_secret x g.revealed ≡ shown s w x)
      (lengths : g.committed ≡ map (committed_by s z) next.promises)
      (own : (x : Revealed) → is_honest s x.party ≡ true → is_own s next.hashed (held_secret s x.party x.secret) (digest_at next.promises x) ≡ true)
      (known : (x : Revealed) → is_some (digest_at next.promises x) ≡ true → has_secret x (all_secrets s) ≡ true)
      (within : Begins z next.posted)
      (grows : (x : Revealed) → shown s w x ≡ true → shown s next x ≡ true)
      (apart : different_secrets (all_secrets s) ≡ true) where
    abbrev comes : Revealed → Bool
    comes x = shown s next x && not (shown s w x)

    pub reveals_legal : Legal g (reveals s w next)
    reveals_legal = legal_reveals (newly_shown s w next) g
        (all-filter comes (is_known_in g) (all_secrets s)
        (λ x h. rw (lengths, length_at-by s z x next.promises)
        (shown_known next x (digest_at next.promises x) (own x) within (and_parts (shown s next x) _ h).0)))
        (all-filter comes (λ x. not (has_secret x g.revealed)) (all_secrets s) (λ x h. rw (was x) (and_parts (shown s next x) _ h).1))
        (different-filter comes (all_secrets s) apart)

    pub reveals_agree : (x : Revealed) → has_secret x (g.revealed ++ newly_shown s w next) ≡ shown s next x
    reveals_agree x =
        let member = filter-member comes x (all_secrets s)
        (λ h. known x (shown-some next.posted (digest_at next.promises x) (and_parts (shown s next x) _ h).0)) in
        has_secret-append x g.revealed (newly_shown s w next) ∙ rw (was x, member) (let g' = grows x in grind arith)
