use Rattle.std.proofs.Common.{◌≡◌, ℕ, List, take, map}
use Rattle.bm_world_board.specs.Accounts.{account_of}
use Rattle.bm_world_opening.specs.Opening.{opening_output}
use Rattle.bm_world_opening.proofs.opening.outputs_of.Given as goal

abbrev pub invariant-loop-deposit : goal.invariant-loop-deposit
invariant-loop-deposit l = (hash : List ℕ → List ℕ) (parties : List (List ℕ)) → l.accounts ≡ map (account_of hash) parties → l.outputs
    ≡ map (opening_output hash) (take l.deposit-index l.deposits)
