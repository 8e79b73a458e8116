use Rattle.std.proofs.Common.{◌≡◌, ◌++◌, map, drop}
use Rattle.std.specs.List.{flat_map}
use Rattle.deal_state.specs.Prospects.{prospect_in, chance_text}
use Rattle.deal_state.proofs.text.put_prospects.Given as goal

abbrev pub invariant-loop-prospect : goal.invariant-loop-prospect
invariant-loop-prospect l =
    l.out.items ++ flat_map chance_text (map prospect_in (drop l.prospect-index l.prospects))
    ≡ l.initial.out.items ++ flat_map chance_text (map prospect_in l.prospects)
