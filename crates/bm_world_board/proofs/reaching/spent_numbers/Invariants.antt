use Rattle.std.proofs.Common.{◌≡◌, take, map}
use Rattle.spec_bitcoin.specs.Verdict.{spent_number}
use Rattle.bm_world_board.proofs.reaching.spent_numbers.Given as goal

abbrev pub invariant-loop-input : goal.invariant-loop-input
invariant-loop-input l = l.numbers ≡ map (spent_number l.ledger.live) (take l.input-index l.inputs)
