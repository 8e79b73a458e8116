use Rattle.std.proofs.Common.{◌≡◌, ◌++◌, drop}
use Rattle.bm_exchange.proofs.promised.put_digests.Given as goal

-- what is put, and what is left, are all
abbrev pub invariant-loop-pair : goal.invariant-loop-pair
invariant-loop-pair l = l.list ++ drop l.pair-index l.digests ≡ l.initial.list ++ l.digests
