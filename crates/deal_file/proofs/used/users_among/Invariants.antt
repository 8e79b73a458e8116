use Rattle.std.proofs.Common.{◌≡◌, ◌++◌, drop}
use Rattle.std.specs.List.{filter}
use Rattle.spec_deal.specs.Setting.{deal_keys}
use Rattle.spec_deal.specs.Used.{uses_key}
use Rattle.deal_file.proofs.used.users_among.Given as goal

abbrev pub invariant-loop-party : goal.invariant-loop-party
invariant-loop-party l =
    l.users.items ++ filter (uses_key (deal_keys l.deal) l.checked) (drop l.party-index l.parties)
    ≡ filter (uses_key (deal_keys l.deal) l.checked) l.parties
