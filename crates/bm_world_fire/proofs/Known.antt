-- Posted strings that fit a digest, by the one message that has it.
use Rattle.std.proofs.Common.{◌≡◌, ℕ, List, [], ◌∷◌, length, Bool, true, false, Option, Some, None, refl, sym, ap, ◌∙◌}
use Rattle.std.specs.Prelude.{◌&&◌, if◌then◌else◌}
use Rattle.std.specs.List.{find}
use Rattle.std.specs.Option.{option_and_then}
use Rattle.std.specs.Str.{bytes_eq}
use Rattle.std.proofs.lemmas.Bool.{and_parts, and_from, both_ways}
use Rattle.spec_data.specs.Lists.{is_among, look_up}
use Rattle.spec_compiler.specs.Scripts.{digest_of}
use Rattle.spec_run.specs.Setup.{Setup}
use Rattle.spec_run.specs.Committing.{is_secret_long}
use Rattle.spec_run.specs.Revealing.{fits, fitting}
use Rattle.theory_calculus.proofs.Names.{bytes-true}
use Rattle.bm_hash.specs.Messages.{message_of, evidence_of}
use Rattle.bm_hash.proofs.Evidence.{find_among, none_at, apart, noted_among, among_noted}
use Rattle.bm_world_fire.specs.Shown.{if_shown, shown_by}

module _ (s : Setup) (messages posted : List (List ℕ))
    (clear : evidence_of s.hash messages ≡ None) (heard : (t : List ℕ) → is_among t posted ≡ true → is_among t messages ≡ true) where
  -- the string that fits is the message with this digest
  fits_one : (d t m : List ℕ) → is_among t posted ≡ true → bytes_eq (s.hash t) d ≡ true → message_of s.hash messages d ≡ Some m → m ≡ t
  fits_one d t m there same found =
      let f = find_among (λ x. bytes_eq (s.hash x) d) messages m found in
      let a = bytes-true (s.hash m) d f.1 in
      let b = bytes-true (s.hash t) d same in
      apart s.hash [] messages m t clear f.0 (noted_among messages t (heard t there)) (a ∙ sym b)

  pub fitting_by : (d : List ℕ) → fitting s posted d ≡ option_and_then (if_shown posted) (message_of s.hash messages d)
  fitting_by d = by_found (fitting s posted d) refl
    where
      with_string : (t : List ℕ) → is_among t posted ≡ true → fits s d t ≡ true → (o : Option (List ℕ)) → message_of s.hash messages d ≡ o
          → Some t ≡ option_and_then (if_shown posted) o
      with_string t there fit None none =
          let p = and_parts (is_secret_long t) (bytes_eq (s.hash t) d) fit in
          absurd (both_ways _ (none_at (λ x. bytes_eq (s.hash x) d) messages t none (noted_among messages t (heard t there))) p.1)
      with_string t there fit (Some m) found =
          let p = and_parts (is_secret_long t) (bytes_eq (s.hash t) d) fit in
          let same : m ≡ t = fits_one d t m there p.1 found in
          let all : is_secret_long t && is_among t posted ≡ true = and_from _ _ p.0 there in
          sym (ap (if_shown posted) same ∙ ap (λ b. if b then Some t else None) all)

      without : find (fits s d) posted ≡ None → (o : Option (List ℕ)) → message_of s.hash messages d ≡ o → None ≡ option_and_then (if_shown posted) o
      without none None e = refl
      without none (Some m) found = by_test (is_secret_long m && is_among m posted) refl
        where
          by_test : (b : Bool) → (is_secret_long m && is_among m posted) ≡ b → None ≡ (if b then Some m else None)
          by_test false e = refl
          by_test true e =
              let p = and_parts (is_secret_long m) (is_among m posted) e in
              let f = find_among (λ x. bytes_eq (s.hash x) d) messages m found in
              let fit : fits s d m ≡ true = and_from _ _ p.0 f.1 in
              absurd (both_ways _ (none_at (fits s d) posted m none (noted_among posted m p.1)) fit)

      by_found : (o : Option (List ℕ)) → find (fits s d) posted ≡ o → o ≡ option_and_then (if_shown posted) (message_of s.hash messages d)
      by_found None e = without e (message_of s.hash messages d) refl
      by_found (Some t) e =
          let f = find_among (fits s d) posted t e in
          with_string t (among_noted posted t f.0) f.1 (message_of s.hash messages d) refl

-- ---- by the name of a secret

named_digest : (hashes : List (List ℕ × List ℕ)) (name d : List ℕ) → look_up name hashes ≡ Some d → digest_of hashes name ≡ d
named_digest [] name d e = cc
named_digest (h ∷ hs) name d e = by_test (bytes_eq (h.0) name) e (named_digest hs name d)
  where
    by_test : (b : Bool) → (if b then Some (h.1) else look_up name hs) ≡ Some d → (look_up name hs ≡ Some d → digest_of hs name ≡ d)
        → (if b then h.1 else digest_of hs name) ≡ d
    by_test true q ih = cc
    by_test false q ih = ih q

no_digest : (hashes : List (List ℕ × List ℕ)) (name : List ℕ) → look_up name hashes ≡ None → digest_of hashes name ≡ []
no_digest [] name e = refl
no_digest (h ∷ hs) name e = by_test (bytes_eq (h.0) name) e (no_digest hs name)
  where
    by_test : (b : Bool) → (if b then Some (h.1) else look_up name hs) ≡ None → (look_up name hs ≡ None → digest_of hs name ≡ [])
        → (if b then h.1 else digest_of hs name) ≡ []
    by_test true q ih = cc
    by_test false q ih = ih q

not_empty : (xs : List ℕ) → length xs ≡ 32 → bytes_eq xs [] ≡ false
not_empty [] e = cc
not_empty (x ∷ xs) e = refl

module _ (s : Setup) (sized : (m : List ℕ) → length (s.hash m) ≡ 32) where
  never : (t : List ℕ) (b : Bool) → (b && bytes_eq (s.hash t) []) ≡ false
  never t true = not_empty (s.hash t) (sized t)
  never t false = refl

  none_empty : (posted : List (List ℕ)) → fitting s posted [] ≡ None
  none_empty [] = refl
  none_empty (t ∷ ts) = let n : fits s [] t ≡ false = never t (is_secret_long t) in rw n (none_empty ts)

  -- no string is shown of a name without a digest
  pub shown_none : (posted : List (List ℕ)) (hashes : List (List ℕ × List ℕ)) (name : List ℕ) → look_up name hashes ≡ None → None
      ≡ shown_by s posted hashes name
  shown_none posted hashes name e = sym (ap (fitting s posted) (no_digest hashes name e) ∙ none_empty posted)

-- the string that is shown of a name with this digest
pub shown_some : (s : Setup) (messages posted : List (List ℕ)) → evidence_of s.hash messages ≡ None
    → ((t : List ℕ) → is_among t posted ≡ true → is_among t messages ≡ true) → (hashes : List (List ℕ × List ℕ)) (name d : List ℕ)
    → look_up name hashes ≡ Some d → shown_by s posted hashes name ≡ option_and_then (if_shown posted) (message_of s.hash messages d)
shown_some s messages posted clear heard hashes name d e = ap (fitting s posted) (named_digest hashes name d e) ∙ fitting_by s messages posted clear heard d
