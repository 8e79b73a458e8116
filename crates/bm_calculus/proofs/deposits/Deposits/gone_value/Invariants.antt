use Rattle.std.proofs.Common.{◌≡◌, ◌+◌, length}
use Rattle.spec_calculus.specs.Branches.{total_value, gone}
use Rattle.bm_calculus.proofs.deposits.Deposits.gone_value.Given as goal

abbrev pub invariant-loop-rest : goal.invariant-loop-rest
invariant-loop-rest l = l.total + total_value (gone l.self l.rest) ≡ total_value (gone l.self l.numbers)

abbrev pub decreases-loop-rest : goal.decreases-loop-rest
decreases-loop-rest l = length l.rest
