use Rattle.std.proofs.Common.{◌≡◌, ◌++◌, drop}
use Rattle.draw_rows.specs.Signing.{signing}
use Rattle.draw_rows.proofs.openings.put_signing.Given as goal

abbrev pub invariant-loop-party : goal.invariant-loop-party
invariant-loop-party l =
    l.found.items ++ signing l.several l.config l.contract l.pre (drop l.party-index l.people)
    ≡ l.initial.found.items ++ signing l.several l.config l.contract l.pre l.people
