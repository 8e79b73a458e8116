use Rattle.std.proofs.Common.{◌≡◌, ℕ, List, drop}
use Rattle.spec_run.specs.Giving.{first_dead}
use Rattle.bm_world_board.specs.Prepares.{world_of}
use Rattle.bm_world_spend.proofs.refusing.first_dead.Given as goal

abbrev pub invariant-loop-number : goal.invariant-loop-number
invariant-loop-number l =
    (messages : List (List ℕ)) → first_dead (world_of l.board messages) (drop l.number-index l.inputs) ≡ first_dead (world_of l.board messages) l.inputs
