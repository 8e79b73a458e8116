use Rattle.std.proofs.Common.{◌≡◌, drop}
use Rattle.deal_follow.specs.Boards.{has_place}
use Rattle.deal_follow.proofs.spots.is_among.Given as goal

abbrev pub invariant-loop-known : goal.invariant-loop-known
invariant-loop-known l =
    has_place (drop l.known-index l.places) l.place ≡ has_place l.places l.place
