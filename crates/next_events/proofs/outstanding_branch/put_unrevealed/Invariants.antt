use Rattle.std.proofs.Common.{◌≡◌, ◌++◌, drop}
use Rattle.spec_next.specs.Requirements.{unmet, revealed}
use Rattle.next_events.proofs.outstanding_branch.put_unrevealed.Given as goal

abbrev pub invariant-loop-name : goal.invariant-loop-name
invariant-loop-name l =
    l.requirements ++ unmet (revealed l.honest l.config l.contract l.pre (drop l.name-index l.reveals))
    ≡ l.initial.requirements ++ unmet (revealed l.honest l.config l.contract l.pre l.reveals)
