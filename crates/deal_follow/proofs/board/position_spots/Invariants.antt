use Rattle.std.proofs.Common.{◌≡◌, ◌++◌, map, drop}
use Rattle.spec_chain.specs.Outputs.{position_outputs}
use Rattle.deal_follow.specs.Boards.{place_in, place_of}
use Rattle.deal_follow.proofs.board.position_spots.Given as goal

abbrev pub invariant-loop-transaction : goal.invariant-loop-transaction
invariant-loop-transaction l =
    map place_in l.spots ++ map place_of (position_outputs l.checked (drop l.transaction-index l.transactions))
    ≡ map place_of (position_outputs l.checked l.transactions)
