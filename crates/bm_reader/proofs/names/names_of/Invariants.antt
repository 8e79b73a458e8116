use Rattle.std.proofs.Common.{◌≡◌, length, true}
use Rattle.spec_text.specs.Reading.{names_from}
use Rattle.bm_reader.specs.Gives.{ends_of}
use Rattle.bm_reader.proofs.NameLists.{with_names}
use Rattle.bm_reader.proofs.names.names_of.Given as goal

abbrev pub invariant-loop-names : goal.invariant-loop-names
invariant-loop-names l = with_names l.names.items (names_from (ends_of l.put) true l.rest) ≡ names_from (ends_of l.put) true l.lexemes

abbrev pub decreases-loop-names : goal.decreases-loop-names
decreases-loop-names l = length l.rest
