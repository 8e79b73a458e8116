use Rattle.std.proofs.Common.{◌≡◌, take}
use Rattle.bm_hash.specs.Trails.{Hashed}
use Rattle.bm_hash.proofs.strings.hash_all.Given as goal

abbrev pub invariant-loop-message : goal.invariant-loop-message
invariant-loop-message g l = record {
  hasher : l.trail.hasher ≡ l.fn.trail.hasher;
  trail : Hashed (g.H.Hash32.digest_of l.fn.trail.hasher) l.fn.trail.messages l.trail.messages (take l.message-index l.messages);
}
