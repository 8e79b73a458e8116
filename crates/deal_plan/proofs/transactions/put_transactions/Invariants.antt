use Rattle.std.proofs.Common.{◌≡◌, ◌++◌, take}
use Rattle.std.specs.List.{flat_map}
use Rattle.deal_plan.specs.Parts.{transaction_text}
use Rattle.deal_plan.proofs.transactions.put_transactions.Given as goal

abbrev pub invariant-loop-transaction : goal.invariant-loop-transaction
invariant-loop-transaction l = l.out.items ≡ l.initial.out.items ++ flat_map transaction_text (take l.transaction-index l.transactions)
