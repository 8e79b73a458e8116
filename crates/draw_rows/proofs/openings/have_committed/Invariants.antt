use Rattle.std.proofs.Common.{◌≡◌, drop}
use Rattle.spec_calculus.specs.Beginning.{have_committed}
use Rattle.draw_rows.proofs.openings.have_committed.Given as goal

abbrev pub invariant-loop-party : goal.invariant-loop-party
invariant-loop-party l =
    have_committed l.config.committed l.contract (drop l.party-index l.people) ≡ have_committed l.config.committed l.contract l.people
