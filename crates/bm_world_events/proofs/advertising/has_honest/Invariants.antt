use Rattle.std.proofs.Common.{◌≡◌, drop}
use Rattle.std.specs.List.{list_any}
use Rattle.spec_data.specs.Lists.{is_among}
use Rattle.bm_world_events.proofs.advertising.has_honest.Given as goal

abbrev pub invariant-loop-party : goal.invariant-loop-party
invariant-loop-party l =
    list_any (λ p. is_among p l.board.header.honest) (drop l.party-index l.parties) ≡ list_any (λ p. is_among p l.board.header.honest) l.parties
