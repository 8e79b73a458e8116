use Rattle.std.proofs.Common.{◌≡◌, drop}
use Rattle.bitml_deal.specs.Named.{named}
use Rattle.bitml_deal.proofs.naming.named.Given as goal

abbrev pub invariant-loop-transaction : goal.invariant-loop-transaction
invariant-loop-transaction l = named l.which (drop l.transaction-index l.transactions) ≡ named l.which l.transactions
