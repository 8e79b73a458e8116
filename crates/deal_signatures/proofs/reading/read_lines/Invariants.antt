use Rattle.std.proofs.Common.{◌≡◌, ◌≤◌, ◌+◌, [], length}
use Rattle.spec_text.specs.Lines.{lines_of}
use Rattle.spec_deal.specs.SignatureFile.{take_lines}
use Rattle.spec_deal.specs.Verifier.{secp256k1}
use Rattle.deal_signatures.proofs.reading.read_lines.Given as goal

abbrev pub invariant-loop-rest : goal.invariant-loop-rest
invariant-loop-rest l = record {
  told : take_lines secp256k1 l.transactions l.given l.line (lines_of l.rest) ≡ take_lines secp256k1 l.transactions [] 1 (lines_of l.text);
  line : l.line + length l.rest ≤ length l.text + 1;
}

abbrev pub decreases-loop-rest : goal.decreases-loop-rest
decreases-loop-rest l = length l.rest
