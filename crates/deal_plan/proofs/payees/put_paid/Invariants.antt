use Rattle.std.proofs.Common.{◌≡◌, ◌++◌, filter, drop}
use Rattle.std.specs.List.{flat_map}
use Rattle.spec_data.specs.Lists.{is_among}
use Rattle.deal_plan.specs.Parts.{payee_text}
use Rattle.deal_plan.proofs.payees.put_paid.Given as goal

-- what is there, and what is left, are the whole
abbrev pub invariant-loop-party : goal.invariant-loop-party
invariant-loop-party g l =
    let hash = g.H.Hash32.digest_of l.hasher in
    l.out.items ++ flat_map (payee_text hash l.deal) (filter (λ party. is_among party l.paid) (drop l.party-index l.parties))
    ≡ l.initial.out.items ++ flat_map (payee_text hash l.deal) (filter (λ party. is_among party l.paid) l.parties)
