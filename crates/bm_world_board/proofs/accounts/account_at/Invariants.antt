use Rattle.std.proofs.Common.{◌≡◌, drop}
use Rattle.std.specs.List.{find}
use Rattle.std.specs.Str.{bytes_eq}
use Rattle.bm_world_board.specs.declared.accounts.Account.{Account}
use Rattle.bm_world_board.proofs.accounts.account_at.Given as goal

abbrev pub invariant-loop-account : goal.invariant-loop-account
invariant-loop-account l =
    find (λ (a : Account). bytes_eq a.party l.party) (drop l.account-index l.accounts) ≡ find (λ (a : Account). bytes_eq a.party l.party) l.accounts
