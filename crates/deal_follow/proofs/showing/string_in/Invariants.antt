use Rattle.std.proofs.Common.{◌≡◌, map, drop}
use Rattle.deal_follow.specs.Seen.{item_in}
use Rattle.deal_follow.specs.Showing.{string_in}
use Rattle.deal_follow.proofs.showing.string_in.Given as goal

abbrev pub invariant-loop-item : goal.invariant-loop-item
invariant-loop-item l =
    string_in l.digest (map item_in (drop l.item-index l.items)) ≡ string_in l.digest (map item_in l.items)
