use Rattle.std.proofs.Common.{◌≡◌, drop}
use Rattle.spec_data.specs.Lists.{look_up}
use Rattle.spec_terms.specs.Precondition.{deposits}
use Rattle.bm_world_events.proofs.advertising.holding_of.Given as goal

abbrev pub invariant-loop-entry : goal.invariant-loop-entry
invariant-loop-entry l = look_up l.name (deposits (drop l.entry-index l.entries)) ≡ look_up l.name (deposits l.entries)
