use Rattle.std.proofs.Common.{◌≡◌, length}
use Rattle.spec_text.specs.Lines.{lines_of}
use Rattle.spec_deal.specs.DealFile.{file_network}
use Rattle.deal_file.proofs.network.file_network.Given as goal

abbrev pub invariant-loop-rest : goal.invariant-loop-rest
invariant-loop-rest l = file_network (lines_of l.rest) ≡ file_network (lines_of l.text)

abbrev pub decreases-loop-rest : goal.decreases-loop-rest
decreases-loop-rest l = length l.rest
