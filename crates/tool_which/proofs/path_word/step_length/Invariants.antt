use Rattle.std.proofs.Common.{◌≡◌, ◌+◌, drop}
use Rattle.bm_runfile.specs.Steps.{step_length}
use Rattle.tool_which.proofs.path_word.step_length.Given as goal

abbrev pub invariant-loop-byte : goal.invariant-loop-byte
invariant-loop-byte l = record {
  counted : l.count ≡ l.byte-index;
  told : l.count + step_length (drop l.byte-index l.bytes) ≡ step_length l.bytes;
}
