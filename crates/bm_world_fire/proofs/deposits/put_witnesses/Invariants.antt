use Rattle.std.proofs.Common.{◌≡◌, ◌++◌, drop}
use Rattle.bm_world_fire.specs.Filled.{deposits_items}
use Rattle.bm_world_fire.proofs.deposits.put_witnesses.Given as goal

-- what is there, and what is left, are the whole
abbrev pub invariant-loop-k : goal.invariant-loop-k
invariant-loop-k g l =
    let hash = g.H.Hash32.digest_of l.hasher in
    l.all ++ deposits_items hash (drop l.k l.owners) (drop l.k l.digests) ≡ l.initial.all ++ deposits_items hash l.owners l.digests
