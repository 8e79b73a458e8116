use Rattle.std.proofs.Common.{◌≡◌, drop}
use Rattle.spec_terms.specs.Parties.{add_all}
use Rattle.draw_rows.proofs.balances.add_parties.Given as goal

abbrev pub invariant-loop-party : goal.invariant-loop-party
invariant-loop-party l =
    add_all l.names.items (drop l.party-index l.parties) ≡ add_all l.initial.names.items l.parties
