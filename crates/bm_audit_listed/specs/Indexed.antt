-- Transactions with an index from their bytes without marker and witnesses to the places where they stand.
use Rattle.std.specs.Prelude.{◌≡◌, ℕ, ◌+◌, List, [], ◌∷◌, ◌++◌, if◌then◌else◌, Option, Some, None, slice_get}
use Rattle.std.specs.Option.{option_map_or}
use Rattle.std.specs.Ordering.{nat_cmp}
use Rattle.std.specs.Cmp.Lexicographic.{slice_cmp}
use Rattle.std.specs.Str.{bytes_eq}
use Rattle.std.specs.BTreeMap as tree
use Rattle.std.specs.BTreeMap.{BTreeMap}
use Rattle.std.specs.Global.{Vec}
use Rattle.spec_bitcoin.specs.declared.tx.Tx.{Tx}
use Rattle.spec_bitcoin.specs.Spelling.{stripped}
use Rattle.spec_run.specs.Ledger.{same_bare}
use Rattle.spec_tool.specs.declared.which.Which.{Which}
use Rattle.bm_audit_listed.specs.declared.entries.Candidate.{Candidate}

-- the places of those with these bytes, where the first has place k
abbrev pub places_from : ℕ → List ℕ → List Candidate → List ℕ
places_from k bytes [] = []
places_from k bytes (c ∷ cs) =
    if bytes_eq (stripped c.tx) bytes then k ∷ places_from (k + 1) bytes cs else places_from (k + 1) bytes cs

-- the places that the index has for these bytes
abbrev pub places_or_none : Option (List ℕ) → List ℕ
places_or_none None = []
places_or_none (Some places) = places

abbrev pub found_at : BTreeMap (Vec ℕ) (List ℕ) → List ℕ → List ℕ
found_at index bytes = places_or_none (tree.get_by (λ k. slice_cmp nat_cmp bytes k.items) index)

-- the index has the places of all of them
pub record IsIndexed (cs : List Candidate) (index : BTreeMap (Vec ℕ) (List ℕ)) : Type 0 where
  pub at : (bytes : List ℕ) → found_at index bytes ≡ places_from 0 bytes cs

-- the index has nothing for these bytes any more, and for others what it had
pub record Leaves (old new : BTreeMap (Vec ℕ) (List ℕ)) (bytes : List ℕ) : Type 0 where
  pub at : (q : List ℕ) → found_at new q ≡ (if bytes_eq bytes q then [] else found_at old q)

-- the index has one place more for these bytes
pub record Adds (old new : BTreeMap (Vec ℕ) (List ℕ)) (bytes : List ℕ) (place : ℕ) : Type 0 where
  pub at : (q : List ℕ) → found_at new q ≡ (if bytes_eq bytes q then found_at old q ++ place ∷ [] else found_at old q)

-- the name of the one at this place, if it is the transaction without its witnesses
abbrev pub name_by : Tx → Option Candidate → List Which
name_by tx None = []
name_by tx (Some c) = if same_bare tx c.tx then c.which ∷ [] else []

abbrev pub name_at : List Candidate → Tx → ℕ → List Which
name_at cs tx place = name_by tx (slice_get cs place)
