use Rattle.std.proofs.Common.{◌≡◌, map, drop}
use Rattle.deal_follow.specs.Boards.{place_in}
use Rattle.deal_follow.specs.Judging.{inputs_by}
use Rattle.deal_follow.proofs.refusal.first_bad.Given as goal

abbrev pub invariant-loop-input : goal.invariant-loop-input
invariant-loop-input l =
    let deposits = map place_in l.board.deposits in
    let positions = map place_in l.board.positions in
    inputs_by deposits positions l.is_own l.live.items l.number (drop l.input-index l.inputs)
    ≡ inputs_by deposits positions l.is_own l.fn.places.items 0 l.inputs
