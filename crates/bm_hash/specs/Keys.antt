-- An index from digests to places.
use Rattle.std.specs.Prelude.{ℕ, Bool, List, Option, Some}
use Rattle.std.specs.Str.{bytes_eq}
use Rattle.indexmap.specs.IndexMap.{IndexMap, get_by, Updates}
use Rattle.bm_hash.specs.declared.key.Key.{Key}

-- the place of a digest
abbrev pub place_in : {S : Type 0} → IndexMap Key ℕ S → List ℕ → Option ℕ
place_in index d = get_by (λ k. bytes_eq d k.digest) index

-- whether two keys are of one digest
abbrev pub same_digest : Key → Key → Bool
same_digest a b = bytes_eq a.digest b.digest

-- one index is the other with a place for this digest
abbrev pub Places : {S : Type 0} → IndexMap Key ℕ S → IndexMap Key ℕ S → List ℕ → ℕ → Type 0
Places old new d place = Updates same_digest old new (record { digest = d }) (Some place)
