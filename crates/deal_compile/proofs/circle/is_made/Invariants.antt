use Rattle.std.proofs.Common.{◌≡◌, drop}
use Rattle.deal_compile.specs.Parts.{is_made_by}
use Rattle.deal_compile.proofs.circle.is_made.Given as goal

abbrev pub invariant-loop-transaction : goal.invariant-loop-transaction
invariant-loop-transaction l = is_made_by (drop l.transaction-index l.transactions) l.place ≡ is_made_by l.transactions l.place
