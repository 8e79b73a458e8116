-- An index with one digest more.
use Rattle.std.proofs.Common.{◌≡◌, ℕ, List, cond, Some}
use Rattle.std.specs.Str.{bytes_eq}
use Rattle.indexmap.specs.IndexMap.{IndexMap, IsUnchanged}
use Rattle.bm_hash.specs.declared.key.Key.{Key}
use Rattle.bm_hash.specs.Keys.{place_in, Places}

pub placed : {S : Type 0} (old new : IndexMap Key ℕ S) (d : List ℕ) (n : ℕ) → Places old new d n → (q : List ℕ) → place_in new q
    ≡ cond (bytes_eq d q) (Some n) (place_in old q)
placed old new d n updates q = updates.0 (record { digest = q })

-- the same behind an index of the same entries
pub placed_behind : {S : Type 0} (old mid new : IndexMap Key ℕ S) (d : List ℕ) (n : ℕ) → IsUnchanged old mid → Places mid new d n → Places old new d n
placed_behind old mid new d n same updates = rw (← same) updates
