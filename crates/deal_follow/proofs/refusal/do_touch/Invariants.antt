use Rattle.std.proofs.Common.{◌≡◌, map, drop}
use Rattle.deal_follow.specs.Boards.{place_in}
use Rattle.deal_follow.specs.Judging.{do_touch}
use Rattle.deal_follow.proofs.refusal.do_touch.Given as goal

abbrev pub invariant-loop-input : goal.invariant-loop-input
invariant-loop-input l =
    do_touch (map place_in l.board.deposits) (map place_in l.board.positions) (drop l.input-index l.inputs)
    ≡ do_touch (map place_in l.board.deposits) (map place_in l.board.positions) l.inputs
