use Rattle.std.proofs.Common.{◌≡◌, ◌++◌, drop}
use Rattle.std.specs.Prelude.{filter}
use Rattle.spec_data.specs.Lists.{is_among}
use Rattle.next_outlook.proofs.people.declared.Given as goal

abbrev pub invariant-loop-party : goal.invariant-loop-party
invariant-loop-party l =
    l.list ++ filter (λ party. is_among party l.parties) (drop l.party-index l.people) ≡ filter (λ party. is_among party l.parties) l.people
