use Rattle.std.proofs.Common.{◌≡◌, ◌++◌, drop}
use Rattle.spec_terms.specs.Precondition.{names_of, deposits}
use Rattle.bm_world_events.proofs.advertising.names_of.Given as goal

abbrev pub invariant-loop-entry : goal.invariant-loop-entry
invariant-loop-entry l = l.names ++ names_of (deposits (drop l.entry-index l.entries)) ≡ names_of (deposits l.entries)
