use Rattle.std.proofs.Common.{◌≡◌, ◌++◌, take}
use Rattle.std.specs.List.{flat_map}
use Rattle.deal_warn.specs.Warned.{transaction_warnings_by}
use Rattle.deal_warn.proofs.warnings.put_transactions.Given as goal

abbrev pub invariant-loop-transaction : goal.invariant-loop-transaction
invariant-loop-transaction l =
    l.lines.items ≡ l.initial.lines.items ++ flat_map (transaction_warnings_by l.checked) (take l.transaction-index l.transactions)
