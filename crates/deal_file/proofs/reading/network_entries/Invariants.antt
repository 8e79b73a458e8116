use Rattle.std.proofs.Common.{◌≡◌, ◌≤◌, ◌+◌, [], length}
use Rattle.spec_text.specs.Lines.{lines_of}
use Rattle.spec_deal.specs.DealFile.{read_entries}
use Rattle.spec_deal.specs.Verifier.{secp256k1}
use Rattle.deal_file.specs.Entries as entries
use Rattle.deal_file.proofs.reading.network_entries.Given as goal

abbrev pub invariant-loop-rest : goal.invariant-loop-rest
invariant-loop-rest l = record {
  told :
      read_entries secp256k1 l.network l.checked (entries.told l.entries) l.line (lines_of l.rest)
      ≡ read_entries secp256k1 l.network l.checked [] 1 (lines_of l.text);
  tied : entries.IsTied l.entries;
  line : l.line + length l.rest ≤ length l.text + 1;
}

abbrev pub decreases-loop-rest : goal.decreases-loop-rest
decreases-loop-rest l = length l.rest
