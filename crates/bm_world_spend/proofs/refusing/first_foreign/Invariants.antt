use Rattle.std.proofs.Common.{◌≡◌, drop}
use Rattle.bm_world_spend.specs.Gifts.{first_foreign_by}
use Rattle.bm_world_spend.proofs.refusing.first_foreign.Given as goal

abbrev pub invariant-loop-number : goal.invariant-loop-number
invariant-loop-number l =
    first_foreign_by l.board.accounts l.board.coins.outputs l.party (drop l.number-index l.inputs)
    ≡ first_foreign_by l.board.accounts l.board.coins.outputs l.party l.inputs
