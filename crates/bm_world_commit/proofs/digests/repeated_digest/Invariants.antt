use Rattle.std.proofs.Common.{◌≡◌, ◌++◌, ℕ, List, drop, take, map}
use Rattle.spec_run.specs.Committing.{used_digests, used_again}
use Rattle.bm_world_commit.proofs.digests.repeated_digest.Given as goal

abbrev pub invariant-loop-k : goal.invariant-loop-k
invariant-loop-k l =
    used_again (used_digests l.exchange.promises ++ map (λ (d : List ℕ × List ℕ). d.1) (take l.k l.digests)) (drop l.k l.digests)
    ≡ used_again (used_digests l.exchange.promises) l.digests
