-- The records of an input as they are written.
use Rattle.std.specs.Prelude.{ℕ, List, ◌∷◌, map}
use Rattle.std.specs.List.{flat_map}
use Rattle.spec_tool.specs.Psbt.{Pairing, pairing_bytes}

abbrev pub records_bytes : List Pairing → List ℕ
records_bytes records = flat_map pairing_bytes records

-- the records of signatures
abbrev pub signature_records : List Pairing → List Pairing
signature_records signatures = map {B = Pairing} (λ p. (2 ∷ p.0, p.1)) signatures
