use Rattle.std.proofs.Common.{◌≡◌, ◌++◌, drop}
use Rattle.spec_run.specs.World.{digests_at}
use Rattle.bm_exchange.proofs.promised.all_digests.Given as goal

-- what is put, and what the commitments that are left have, is what all have
abbrev pub invariant-loop-promise : goal.invariant-loop-promise
invariant-loop-promise l = l.list ++ digests_at (drop l.promise-index l.promises) l.contract ≡ digests_at l.promises l.contract
