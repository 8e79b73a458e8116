use Rattle.std.proofs.Common.{◌≡◌, ◌++◌, map, drop}
use Rattle.std.specs.Prelude.{filter}
use Rattle.std.specs.List.{flat_map}
use Rattle.spec_chain.specs.StateText.{waits_line}
use Rattle.deal_state.specs.Prospects.{prospect_in, is_awaited_by}
use Rattle.deal_state.proofs.text.put_all_waits.Given as goal

abbrev pub invariant-loop-party : goal.invariant-loop-party
invariant-loop-party l =
    l.out.items
    ++ flat_map waits_line (filter (is_awaited_by (map prospect_in l.prospects)) (drop l.party-index l.parties))
    ≡ l.initial.out.items
    ++ flat_map waits_line (filter (is_awaited_by (map prospect_in l.prospects)) l.parties)
