use Rattle.std.proofs.Common.{◌≡◌, ℕ, List, drop, map}
use Rattle.spec_data.specs.Lists.{is_among}
use Rattle.bm_world_commit.proofs.digests.has_digest.Given as goal

abbrev pub invariant-loop-one : goal.invariant-loop-one
invariant-loop-one l =
    is_among l.digest (map (λ (d : List ℕ × List ℕ). d.1) (drop l.one-index l.digests)) ≡ is_among l.digest (map (λ (d : List ℕ × List ℕ). d.1) l.digests)
