use Rattle.std.proofs.Common.{◌≡◌, drop}
use Rattle.deal_compile.specs.Parts.{first_made}
use Rattle.deal_compile.proofs.circle.first_made.Given as goal

abbrev pub invariant-loop-name : goal.invariant-loop-name
invariant-loop-name l = first_made (drop l.name-index l.bound) l.transactions ≡ first_made l.bound l.transactions
