use Rattle.std.proofs.Common.{◌≡◌, ◌++◌, drop, map}
use Rattle.deal_file.specs.Needs.{party_need}
use Rattle.deal_file.proofs.needs.put_parties.Given as goal

abbrev pub invariant-loop-party : goal.invariant-loop-party
invariant-loop-party l =
    l.out.items ++ map party_need (drop l.party-index l.parties) ≡ l.initial.out.items ++ map party_need l.parties
