use Rattle.std.proofs.Common.{◌≡◌, ◌++◌, drop}
use Rattle.spec_next.specs.Requirements.{unmet, put_in}
use Rattle.next_events.proofs.outstanding_branch.put_gone.Given as goal

abbrev pub invariant-loop-name : goal.invariant-loop-name
invariant-loop-name l =
    l.requirements ++ unmet (put_in l.config l.contract (drop l.name-index l.puts)) ≡ l.initial.requirements ++ unmet (put_in l.config l.contract l.puts)
