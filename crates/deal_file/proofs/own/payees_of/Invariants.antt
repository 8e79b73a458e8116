use Rattle.std.proofs.Common.{◌≡◌, ◌++◌, drop}
use Rattle.std.specs.List.{flat_map}
use Rattle.deal_file.specs.Building.{payee_pair}
use Rattle.deal_file.specs.Entries.{told}
use Rattle.deal_file.proofs.own.payees_of.Given as goal

abbrev pub invariant-loop-party : goal.invariant-loop-party
invariant-loop-party l =
    l.scripts ++ flat_map (payee_pair (told l.entries)) (drop l.party-index l.parties) ≡ flat_map (payee_pair (told l.entries)) l.parties
