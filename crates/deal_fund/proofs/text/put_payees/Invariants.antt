use Rattle.std.proofs.Common.{◌≡◌, ◌++◌, drop}
use Rattle.std.specs.Prelude.{filter}
use Rattle.std.specs.List.{flat_map}
use Rattle.std.specs.Option.{option_map}
use Rattle.spec_data.specs.Lists.{is_among}
use Rattle.deal_fund.specs.Told.{payee_text}
use Rattle.deal_fund.proofs.text.put_payees.Given as goal

abbrev pub invariant-loop-party : goal.invariant-loop-party
invariant-loop-party g l =
    let text = payee_text (g.H.Hash32.digest_of l.hasher) (option_map (λ n. n.now) l.network) l.part in
    l.out.items ++ flat_map text (filter (λ party. is_among party l.paid) (drop l.party-index l.parties))
    ≡ l.initial.out.items ++ flat_map text (filter (λ party. is_among party l.paid) l.parties)
