use Rattle.std.proofs.Common.{◌≡◌, drop, map}
use Rattle.spec_data.specs.Lists.{is_among}
use Rattle.spec_terms.specs.Precondition.{name_in}
use Rattle.bm_wellformed.proofs.entries.is_named.Given as goal

abbrev pub invariant-loop-entry : goal.invariant-loop-entry
invariant-loop-entry l = is_among l.name (map name_in (drop l.entry-index l.pre)) ≡ is_among l.name (map name_in l.pre)
