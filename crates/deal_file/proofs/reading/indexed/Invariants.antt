use Rattle.std.proofs.Common.{◌≡◌, ◌++◌, map, drop}
use Rattle.deal_file.specs.Entries.{needed_in}
use Rattle.deal_file.proofs.reading.indexed.Given as goal

abbrev pub invariant-loop-needed : goal.invariant-loop-needed
invariant-loop-needed l = map needed_in l.needs ++ drop l.needed-index l.all ≡ l.all
