use Rattle.std.proofs.Common.{◌≡◌, [], drop, take, map}
use Rattle.spec_terms.specs.Faults.{first_repeated}
use Rattle.spec_terms.specs.Precondition.{name_in}
use Rattle.bm_wellformed.proofs.entries.repeated_entry.Given as goal

abbrev pub invariant-loop-entry : goal.invariant-loop-entry
invariant-loop-entry l = record {
  counted : l.number ≡ l.entry-index;
  rest : first_repeated l.number (map name_in (take l.entry-index l.pre)) (map name_in (drop l.entry-index l.pre)) ≡ first_repeated 0 [] (map name_in l.pre);
}
