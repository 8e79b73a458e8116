use Rattle.std.proofs.Common.{◌≡◌, ◌++◌, map, take}
use Rattle.bm_exchange.proofs.promised.add_digests.Given as goal

-- the digests so far are added
abbrev pub invariant-loop-pair : goal.invariant-loop-pair
invariant-loop-pair l = l.used ≡ l.initial.used ++ map (λ d. d.1) (take l.pair-index l.digests)
