use Rattle.std.proofs.Common.{◌≡◌, map, drop}
use Rattle.deal_state.specs.Prospects.{prospect_in, is_awaited_by}
use Rattle.deal_state.proofs.text.is_awaited.Given as goal

abbrev pub invariant-loop-prospect : goal.invariant-loop-prospect
invariant-loop-prospect l =
    is_awaited_by (map prospect_in (drop l.prospect-index l.prospects)) l.party
    ≡ is_awaited_by (map prospect_in l.prospects) l.party
