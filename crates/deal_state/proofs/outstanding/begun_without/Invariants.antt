use Rattle.std.proofs.Common.{◌≡◌, ◌++◌, drop}
use Rattle.spec_terms.specs.Precondition.{persistent, names_of}
use Rattle.deal_state.specs.Prospects.{gone_in}
use Rattle.deal_state.proofs.outstanding.begun_without.Given as goal

abbrev pub invariant-loop-entry : goal.invariant-loop-entry
invariant-loop-entry l =
    l.names.items ++ gone_in l.live (names_of (persistent (drop l.entry-index l.pre))) ≡ gone_in l.live (names_of (persistent l.pre))
