use Rattle.std.proofs.Common.{◌≡◌, take}
use Rattle.std.specs.List.{flat_map}
use Rattle.bm_hash.specs.Trails.{Hashed}
use Rattle.deal_follow.specs.Seen.{witness_in}
use Rattle.deal_follow.proofs.hashing.hash_items.Given as goal

abbrev pub invariant-loop-input : goal.invariant-loop-input
invariant-loop-input g l = record {
  hasher : l.trail.hasher ≡ l.fn.trail.hasher;
  trail : Hashed (g.H.Hash32.digest_of l.fn.trail.hasher) l.fn.trail.messages l.trail.messages (flat_map witness_in (take l.input-index l.inputs));
}
