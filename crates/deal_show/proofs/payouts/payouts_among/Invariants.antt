use Rattle.std.proofs.Common.{◌≡◌, ◌++◌, map, filter, drop}
use Rattle.serde_json.specs.View.{view}
use Rattle.spec_data.specs.Lists.{is_among}
use Rattle.spec_show.specs.ShownDeal.{payee_data}
use Rattle.deal_compile.specs.Keyed.{keys_of}
use Rattle.deal_show.proofs.payouts.payouts_among.Given as goal

-- what is there, and what is left, are the whole
abbrev pub invariant-loop-party : goal.invariant-loop-party
invariant-loop-party g l =
    let shown = payee_data (g.H.Hash32.digest_of l.hasher) l.network (keys_of l.keys) in
    map view l.values.items ++ map shown (filter (λ party. is_among party l.paid) (drop l.party-index l.parties))
    ≡ map shown (filter (λ party. is_among party l.paid) l.parties)
