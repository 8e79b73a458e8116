use Rattle.std.proofs.Common.{◌≡◌, ◌++◌, map, drop}
use Rattle.serde_json.specs.View.{view}
use Rattle.deal_show.specs.Showing.{transaction_by}
use Rattle.deal_show.proofs.transactions.transaction_values.Given as goal

abbrev pub invariant-loop-transaction : goal.invariant-loop-transaction
invariant-loop-transaction l =
    map view l.values.items ++ map (transaction_by l.network l.checked) (drop l.transaction-index l.transactions)
    ≡ map (transaction_by l.network l.checked) l.transactions
