use Rattle.std.proofs.Common.{◌≡◌, ◌++◌, drop}
use Rattle.bm_world_sign.specs.Starting.{pairs_by_key}
use Rattle.next_outlook.proofs.hands.pairs_of.Given as goal

-- the pairs so far and those of the rest are all
abbrev pub invariant-loop-owner : goal.invariant-loop-owner
invariant-loop-owner l =
    l.pairs.items ++ pairs_by_key l.key l.party (drop l.owner-index l.owners) l.rest ≡ pairs_by_key l.key l.party l.owners l.digests
