use Rattle.std.proofs.Common.{◌≡◌, ◌++◌, map, drop}
use Rattle.deal_missing.specs.Required.{wanted_in, required}
use Rattle.deal_missing.proofs.requirements.all_requirements.Given as goal

abbrev pub invariant-loop-transaction : goal.invariant-loop-transaction
invariant-loop-transaction l =
    map wanted_in l.requirements.items ++ required (drop l.transaction-index l.transactions) ≡ required l.transactions
