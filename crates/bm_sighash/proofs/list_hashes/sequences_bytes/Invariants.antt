use Rattle.std.proofs.Common.{◌≡◌, ◌++◌, drop}
use Rattle.std.specs.List.{flat_map}
use Rattle.spec_bitcoin.specs.Spelling.{word}
use Rattle.bm_sighash.proofs.list_hashes.sequences_bytes.Given as goal

-- what is written and what is left to write are the whole
abbrev pub invariant-loop-input : goal.invariant-loop-input
invariant-loop-input l = l.out.items ++ flat_map (λ i. word i.sequence) (drop l.input-index l.tx.inputs) ≡ flat_map (λ i. word i.sequence) l.tx.inputs
