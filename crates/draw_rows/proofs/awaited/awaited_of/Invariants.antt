use Rattle.std.proofs.Common.{◌≡◌, ◌++◌, drop}
use Rattle.spec_page.specs.Outlooks.{awaited_of}
use Rattle.draw_rows.proofs.awaited.awaited_of.Given as goal

abbrev pub invariant-loop-party : goal.invariant-loop-party
invariant-loop-party l =
    l.names.items ++ awaited_of (drop l.party-index l.people) l.lacks ≡ awaited_of l.people l.lacks
