use Rattle.std.proofs.Common.{◌≡◌, map, drop}
use Rattle.deal_follow.specs.Boards.{place_in, has_place}
use Rattle.deal_follow.proofs.spots.is_there.Given as goal

abbrev pub invariant-loop-spot : goal.invariant-loop-spot
invariant-loop-spot l =
    has_place (map place_in (drop l.spot-index l.spots)) l.place ≡ has_place (map place_in l.spots) l.place
