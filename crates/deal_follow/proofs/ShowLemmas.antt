-- The secrets that a transaction shows, by the digests of the items of its witnesses.
use Rattle.std.proofs.Common.{◌≡◌, ℕ, List, [], ◌∷◌, ◌++◌, map, Bool, true, false, not, ◌&&◌, cond, Option, Some, None}
use Rattle.std.proofs.Common.{refl, sym, ap, ◌∙◌}
use Rattle.std.specs.Prelude.{filter, is_some, if◌then◌else◌}
use Rattle.std.specs.List.{find}
use Rattle.std.specs.Option.{option_map}
use Rattle.std.specs.Str.{bytes_eq}
use Rattle.spec_data.specs.Lists.{look_up}
use Rattle.spec_terms.specs.Precondition.{secrets}
use Rattle.spec_bitcoin.specs.declared.tx.Tx.{Tx}
use Rattle.spec_compiler.specs.Scripts.{digest_of}
use Rattle.spec_compiler.specs.Keyed.Instance.{Instance}
use Rattle.spec_deal.specs.Finished.{bytes_or_none}
use Rattle.spec_deal.specs.SecretFile.{has_length}
use Rattle.spec_chain.specs.Following.{State, is_string_of, string_shown, is_newly_shown, newly_shown, strings_shown, items_in}
use Rattle.deal_follow.specs.Seen.{hashed_items, likely_items}
use Rattle.deal_follow.specs.Showing.{is_string_in, string_in, newly_string, secret_if, string_if, secrets_by, strings_by}

-- the digest of a secret that has one
pub digest_found : (hashes : List (List ℕ × List ℕ)) (name digest : List ℕ) → look_up name hashes ≡ Some digest
    → digest ≡ digest_of hashes name
digest_found [] name digest h = cc
digest_found (p ∷ ps) name digest h = by (bytes_eq (p.0) name) h (λ there. digest_found ps name digest there)
  where
    by : (b : Bool) → (if b then Some (p.1) else look_up name ps) ≡ Some digest
        → (look_up name ps ≡ Some digest → digest ≡ digest_of ps name) → digest ≡ (if b then p.1 else digest_of ps name)
    by true h later = cc
    by false h later = later h

module _ (hash : List ℕ → List ℕ) where
  -- the string by the digests of the items is that by the items
  string_hashed : (digest : List ℕ) (items : List (List ℕ))
      → string_in digest (hashed_items hash items) ≡ find (is_string_of hash digest) items
  string_hashed digest [] = refl
  string_hashed digest (item ∷ items) = by (is_string_of hash digest item) (string_hashed digest items)
    where
      by : (b : Bool) → string_in digest (hashed_items hash items) ≡ find (is_string_of hash digest) items
          → option_map (λ (p : List ℕ × List ℕ). p.0) (cond b (Some (item, hash item)) (find (is_string_in digest) (hashed_items hash items)))
          ≡ cond b (Some item) (find (is_string_of hash digest) items)
      by true h = refl
      by false h = h

  -- none that has another length is one
  string_likely : (digest : List ℕ) (items : List (List ℕ))
      → find (is_string_of hash digest) (filter has_length items) ≡ find (is_string_of hash digest) items
  string_likely digest [] = refl
  string_likely digest (item ∷ items) = by (has_length item) refl (string_likely digest items)
    where
      by : (b : Bool) → has_length item ≡ b
          → find (is_string_of hash digest) (filter has_length items) ≡ find (is_string_of hash digest) items
          → find (is_string_of hash digest) (cond b (item ∷ filter has_length items) (filter has_length items))
          ≡ cond (is_string_of hash digest item) (Some item) (find (is_string_of hash digest) items)
      by true e h = ap (cond (is_string_of hash digest item) (Some item)) h
      by false e h =
          h ∙ ap (λ (t : Bool). cond (t && bytes_eq (hash item) digest) (Some item) (find (is_string_of hash digest) items)) (sym e)

  module _ (s : Instance) (state : State) (tx : Tx) (items : List (List ℕ × List ℕ)) (are : items ≡ hashed_items hash (likely_items tx)) where
    abbrev newly : List ℕ → Option (List ℕ)
    newly name = newly_string s.hashes state.shown items name

    shown_here : (name : List ℕ) → string_in (digest_of s.hashes name) items ≡ string_shown hash s tx name
    shown_here name =
        ap (string_in (digest_of s.hashes name)) are ∙ string_hashed (digest_of s.hashes name) (likely_items tx)
        ∙ string_likely (digest_of s.hashes name) (items_in tx)

    unless : (b : Bool) (o : Option (List ℕ)) → is_some (if b then None else o) ≡ (not b && is_some o)
    unless true o = refl
    unless false o = refl

    newly_is : (name : List ℕ) → is_some (newly name) ≡ is_newly_shown hash s state tx name
    newly_is name =
        unless (is_some (look_up name state.shown)) (string_in (digest_of s.hashes name) items)
        ∙ ap (λ o. not (is_some (look_up name state.shown)) && is_some o) (shown_here name)

    -- a string that is newly shown is the one that is shown
    newly_some : (name bytes : List ℕ) → newly name ≡ Some bytes → bytes ≡ bytes_or_none (string_shown hash s tx name)
    newly_some name bytes h =
        by (is_some (look_up name state.shown)) (string_in (digest_of s.hashes name) items) h ∙ ap bytes_or_none (shown_here name)
      where
        by : (b : Bool) (o : Option (List ℕ)) → (if b then None else o) ≡ Some bytes → bytes ≡ bytes_or_none o
        by true o h = cc
        by false None h = cc
        by false (Some found) h = cc

    abbrev those : List (List ℕ × List ℕ) → List (List ℕ × List ℕ)
    those ps = filter (λ p. is_newly_shown hash s state tx (p.0)) ps

    secrets_of : (ps : List (List ℕ × List ℕ))
        → secrets_by s.hashes state.shown items ps ≡ those ps
    secrets_of [] = refl
    secrets_of (p ∷ ps) = by (newly (p.0)) (secrets_of ps) ∙ ap (λ b. cond b (p ∷ those ps) (those ps)) (newly_is (p.0))
      where
        by : (o : Option (List ℕ)) → secrets_by s.hashes state.shown items ps ≡ those ps
            → secret_if p o ++ secrets_by s.hashes state.shown items ps ≡ cond (is_some o) (p ∷ those ps) (those ps)
        by None h = h
        by (Some bytes) h = ap (λ (l : List (List ℕ × List ℕ)). p ∷ l) h

    abbrev with_string : List ℕ × List ℕ → List ℕ × List ℕ
    with_string p = (p.0, bytes_or_none (string_shown hash s tx (p.0)))

    strings_of : (ps : List (List ℕ × List ℕ))
        → strings_by s.hashes state.shown items ps ≡ map with_string (those ps)
    strings_of [] = refl
    strings_of (p ∷ ps) =
        by (newly (p.0)) refl (strings_of ps) ∙ ap (λ b. map with_string (cond b (p ∷ those ps) (those ps))) (newly_is (p.0))
      where
        by : (o : Option (List ℕ)) → newly (p.0) ≡ o → strings_by s.hashes state.shown items ps ≡ map with_string (those ps)
            → string_if p o ++ strings_by s.hashes state.shown items ps ≡ map with_string (cond (is_some o) (p ∷ those ps) (those ps))
        by None e h = h
        by (Some bytes) e h =
            ap (λ (bytes : List ℕ). (p.0, bytes) ∷ strings_by s.hashes state.shown items ps) (newly_some (p.0) bytes e)
            ∙ ap (λ (l : List (List ℕ × List ℕ)). with_string p ∷ l) h

    pub newly_are : secrets_by s.hashes state.shown items (secrets s.advert.pre) ≡ newly_shown hash s state tx
    newly_are = secrets_of (secrets s.advert.pre)

    pub strings_newly : strings_by s.hashes state.shown items (secrets s.advert.pre) ≡ strings_shown hash s state tx
    strings_newly = strings_of (secrets s.advert.pre)
