use Rattle.std.proofs.Common.{◌≡◌, ◌++◌, drop}
use Rattle.std.specs.List.{flat_map}
use Rattle.deal_state.specs.Prospects.{branches_in, initial_if}
use Rattle.deal_state.proofs.asked.asked.Given as goal

abbrev pub invariant-loop-output : goal.invariant-loop-output
invariant-loop-output l =
    l.all.items ++ flat_map (branches_in l.checked) (drop l.output-index l.standing.live.items)
    ≡ initial_if l.standing.made.items ++ flat_map (branches_in l.checked) l.standing.live.items
