-- The signatures of an initial transaction, as code finds them.
use Rattle.std.specs.Prelude.{ℕ, List, [], ◌∷◌, if◌then◌else◌, Option, Some, None}
use Rattle.std.specs.Str.{bytes_eq}
use Rattle.spec_bitcoin.specs.Keys.{Pair}
use Rattle.spec_compiler.specs.Endorsements.{Need}
use Rattle.spec_run.specs.declared.outcome.Reason.{Reason}
use Rattle.spec_run.specs.declared.outcome.Reason.TheVariants.{NotEndorsed}
use Rattle.bm_honest.specs.declared.gate.Gate.{Gate}
use Rattle.bm_honest.specs.declared.gate.Gate.TheVariants.{Yes, No}
use Rattle.bm_honest.specs.Gates.{gate_of}

-- a gate that is shut as a reason
abbrev pub gate_reason : Gate → Option Reason
gate_reason Yes = None
gate_reason (No path party) = Some (NotEndorsed path party)

-- the reason that an endorsement which is missing gives
abbrev pub missed_reason : Option Need → Option Reason
missed_reason need = gate_reason (gate_of need)

-- of the deposits of these owners, with the digests of their inputs, the pairs of those that are the party's, which has this key
abbrev pub pairs_by_key : List ℕ → List ℕ → List (List ℕ) → List (List ℕ) → List Pair
pairs_by_key key party [] digests = []
pairs_by_key key party (o ∷ os) [] = []
pairs_by_key key party (o ∷ os) (d ∷ ds) =
    if bytes_eq o party then (key, d) ∷ pairs_by_key key party os ds else pairs_by_key key party os ds
