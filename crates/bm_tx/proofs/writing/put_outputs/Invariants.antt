use Rattle.std.proofs.Common.{◌≡◌, ◌++◌, drop}
use Rattle.std.specs.List.{flat_map}
use Rattle.spec_bitcoin.specs.Spelling.{output_bytes}
use Rattle.bm_tx.proofs.writing.put_outputs.Given as goal

-- what is written and what is left to write are the whole
abbrev pub invariant-loop-output : goal.invariant-loop-output
invariant-loop-output l = l.out.items ++ flat_map output_bytes (drop l.output-index l.outputs) ≡ l.initial.out.items ++ flat_map output_bytes l.outputs
