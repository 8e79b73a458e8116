use Rattle.std.proofs.Common.{◌≡◌, take, map}
use Rattle.spec_run.specs.Setup.{Setup}
use Rattle.spec_run.specs.Giving.{given_output}
use Rattle.bm_world_board.specs.Accounts.{account_of}
use Rattle.bm_world_spend.proofs.gifts.outputs_to.Given as goal

abbrev pub invariant-loop-output : goal.invariant-loop-output
invariant-loop-output l = (s : Setup) → l.accounts ≡ map (account_of s.hash) s.header.parties → l.made ≡ map (given_output s) (take l.output-index l.outputs)
