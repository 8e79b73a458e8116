use Rattle.std.proofs.Common.{◌≡◌, drop}
use Rattle.bm_world_board.specs.Accounts.{owner_in}
use Rattle.bm_world_board.proofs.accounts.owner_of_script.Given as goal

abbrev pub invariant-loop-account : goal.invariant-loop-account
invariant-loop-account l = owner_in (drop l.account-index l.accounts) l.script ≡ owner_in l.accounts l.script
