-- What the gate tells of a contract: that it is endorsed, or which endorsement is the first that is missing.
use Rattle.std.specs.Prelude.{◌≡◌, ℕ, List, [], ◌∷◌, Bool, true, false, Option, Some, None}
use Rattle.spec_terms.specs.Advert.{Advert}
use Rattle.spec_terms.specs.Paths.{at}
use Rattle.spec_terms.specs.declared.path.PathStep.{PathStep}
use Rattle.spec_bitcoin.specs.Keys.{Pair}
use Rattle.spec_compiler.specs.declared.prepared.Prepared.{Prepared}
use Rattle.spec_compiler.specs.Instance.{Instance}
use Rattle.spec_compiler.specs.Endorsements.{Need, is_endorsed, missing_endorsement}
use Rattle.bm_honest.specs.declared.gate.Gate.{Gate}
use Rattle.bm_honest.specs.declared.gate.Gate.TheVariants.{Yes, No}
use Rattle.bm_honest.specs.Unsigned.{seen_branch, unsigned_seen}

-- the gate by the first endorsement that is missing
abbrev pub gate_of : Option Need → Gate
gate_of None = Yes
gate_of (Some need) = No need.path need.party

abbrev pub is_yes : Gate → Bool
is_yes Yes = true
is_yes (No path party) = false

-- the gate tells the first endorsement that the contract misses, and is open exactly where it is endorsed
pub record Tells (hash : List ℕ → List ℕ) (s : Instance) (book : List Pair) (gate : Gate) : Type 0 where
  pub first : gate ≡ gate_of (missing_endorsement hash s book)
  pub endorsed : is_yes gate ≡ is_endorsed hash s book

-- ---- path by path

-- the gate by the first party that hasn't signed for the branch at this path
abbrev pub gate_at : List PathStep → Option (List ℕ) → Gate
gate_at path None = Yes
gate_at path (Some party) = No path party

-- the first gate, where it is shut, and else the second
abbrev pub gate_or : Gate → Gate → Gate
gate_or Yes later = later
gate_or (No path party) later = No path party

-- the gate of the branch at a path, where the participants have these keys
abbrev pub gate_for : (List ℕ → List ℕ) → List Pair → Advert → List (List ℕ) → List PathStep → Prepared → Gate
gate_for hash book advert keys path made =
    gate_at path (unsigned_seen hash book advert keys (seen_branch (at advert.root path)) made.digests)

-- the gate of these transactions by their paths, each with the participants' keys of it
abbrev pub gate_of_paths : (List ℕ → List ℕ) → List Pair → Advert → List (List PathStep × Prepared) → List (List (List ℕ)) → Gate
gate_of_paths hash book advert [] table = Yes
gate_of_paths hash book advert (p ∷ ps) [] = Yes
gate_of_paths hash book advert (p ∷ ps) (k ∷ ks) =
    gate_or (gate_for hash book advert k p.0 p.1) (gate_of_paths hash book advert ps ks)
