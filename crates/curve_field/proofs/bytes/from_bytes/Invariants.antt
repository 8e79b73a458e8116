use Rattle.std.proofs.Common.{◌≡◌, ℕ, List, ◌<◌, ◌^◌, drop}
use Rattle.spec_curve.specs.Key.{number_from}
use Rattle.curve_field.specs.Value.{value}
use Rattle.curve_field.proofs.bytes.from_bytes.Given as goal

-- the first bytes are told
pub record IsTold (bytes : List ℕ) (number told : ℕ) : Type 0 where
  pub same : number_from number (drop told bytes) ≡ number_from 0 bytes
  pub below : number < 256 ^ told

abbrev pub invariant-loop-byte : goal.invariant-loop-byte
invariant-loop-byte l = IsTold l.bytes (value l.number) l.byte-index
