use Rattle.std.proofs.Common.{◌≡◌, ◌++◌, filter, drop}
use Rattle.spec_deal.specs.Used.{uses_key}
use Rattle.deal_compile.specs.Keyed.{keys_of}
use Rattle.deal_compile.proofs.depositing.users_among.Given as goal

-- those that are there, and those that are left, are the whole
abbrev pub invariant-loop-party : goal.invariant-loop-party
invariant-loop-party l =
    l.users.items ++ filter (uses_key (keys_of l.keys) l.checked) (drop l.party-index l.parties)
    ≡ filter (uses_key (keys_of l.keys) l.checked) l.parties
