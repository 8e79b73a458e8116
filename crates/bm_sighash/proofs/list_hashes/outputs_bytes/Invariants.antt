use Rattle.std.proofs.Common.{◌≡◌, ◌++◌, drop}
use Rattle.std.specs.List.{flat_map}
use Rattle.spec_bitcoin.specs.Spelling.{output_bytes}
use Rattle.bm_sighash.proofs.list_hashes.outputs_bytes.Given as goal

-- what is written and what is left to write are the whole
abbrev pub invariant-loop-output : goal.invariant-loop-output
invariant-loop-output l = l.out.items ++ flat_map output_bytes (drop l.output-index l.tx.outputs) ≡ flat_map output_bytes l.tx.outputs
