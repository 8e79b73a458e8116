use Rattle.std.proofs.Common.{◌≡◌, ◌++◌, drop}
use Rattle.spec_bitcoin.specs.Spelling.{witnesses_bytes}
use Rattle.bm_tx.proofs.writing.put_witnesses.Given as goal

-- what is written and what is left to write are the whole
abbrev pub invariant-loop-input : goal.invariant-loop-input
invariant-loop-input l = l.out.items ++ witnesses_bytes (drop l.input-index l.inputs) ≡ l.initial.out.items ++ witnesses_bytes l.inputs
