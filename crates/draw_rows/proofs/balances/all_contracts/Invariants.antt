use Rattle.std.proofs.Common.{◌≡◌, ◌+◌, drop}
use Rattle.std.specs.Prelude.{sum_by}
use Rattle.draw_rows.proofs.balances.all_contracts.Given as goal

abbrev pub invariant-loop-contract : goal.invariant-loop-contract
invariant-loop-contract l =
    l.sum + sum_by (λ a. a.balance) (drop l.contract-index l.active) ≡ sum_by (λ a. a.balance) l.active
