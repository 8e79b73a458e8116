use Rattle.std.proofs.Common.{◌≡◌, ◌++◌, drop}
use Rattle.std.specs.List.{flat_map}
use Rattle.spec_bitcoin.specs.Spelling.{place_bytes}
use Rattle.bm_sighash.proofs.list_hashes.places_bytes.Given as goal

-- what is written and what is left to write are the whole
abbrev pub invariant-loop-input : goal.invariant-loop-input
invariant-loop-input l = l.out.items ++ flat_map (λ i. place_bytes i.prev) (drop l.input-index l.tx.inputs) ≡ flat_map (λ i. place_bytes i.prev) l.tx.inputs
