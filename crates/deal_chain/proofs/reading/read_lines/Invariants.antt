use Rattle.std.proofs.Common.{◌≡◌, ◌≤◌, ◌+◌, [], length}
use Rattle.spec_text.specs.Lines.{lines_of}
use Rattle.spec_chain.specs.ChainFile.{read_lines}
use Rattle.deal_chain.proofs.reading.read_lines.Given as goal

abbrev pub invariant-loop-rest : goal.invariant-loop-rest
invariant-loop-rest l = record {
  told : read_lines l.confirmed l.line l.height (lines_of l.rest) ≡ read_lines [] 1 0 (lines_of l.text);
  line : l.line + length l.rest ≤ length l.text + 1;
}

abbrev pub decreases-loop-rest : goal.decreases-loop-rest
decreases-loop-rest l = length l.rest
