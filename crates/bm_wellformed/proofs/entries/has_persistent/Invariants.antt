use Rattle.std.proofs.Common.{◌≡◌, drop}
use Rattle.spec_data.specs.Lists.{is_among}
use Rattle.spec_terms.specs.Precondition.{owners_of, persistent}
use Rattle.bm_wellformed.proofs.entries.has_persistent.Given as goal

abbrev pub invariant-loop-entry : goal.invariant-loop-entry
invariant-loop-entry l = is_among l.party (owners_of (persistent (drop l.entry-index l.pre))) ≡ is_among l.party (owners_of (persistent l.pre))
