use Rattle.std.proofs.Common.{◌≡◌, ◌++◌, drop}
use Rattle.std.specs.List.{flat_map}
use Rattle.spec_bitcoin.specs.Spelling.{input_bytes}
use Rattle.bm_tx.proofs.writing.put_inputs.Given as goal

-- what is written and what is left to write are the whole
abbrev pub invariant-loop-input : goal.invariant-loop-input
invariant-loop-input l = l.out.items ++ flat_map input_bytes (drop l.input-index l.inputs) ≡ l.initial.out.items ++ flat_map input_bytes l.inputs
