use Rattle.std.proofs.Common.{◌≡◌, ◌++◌, drop, map}
use Rattle.spec_page.specs.Balances.{held_by}
use Rattle.draw_rows.proofs.balances.all_held.Given as goal

abbrev pub invariant-loop-party : goal.invariant-loop-party
invariant-loop-party l =
    l.sums ++ map (held_by l.deposits.items) (drop l.party-index l.parties) ≡ map (held_by l.deposits.items) l.parties
