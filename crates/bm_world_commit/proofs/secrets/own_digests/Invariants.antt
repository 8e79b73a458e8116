use Rattle.std.proofs.Common.{◌≡◌, ◌++◌, map, take, drop}
use Rattle.bm_hash.specs.Trails.{Hashed}
use Rattle.bm_world_commit.specs.Committed.{own_string, own_digest}
use Rattle.bm_world_commit.proofs.secrets.own_digests.Given as goal

abbrev pub invariant-loop-name : goal.invariant-loop-name
invariant-loop-name g l =
    let hash = g.H.Hash32.digest_of l.fn.trail.hasher in
    record {
      hasher : l.trail.hasher ≡ l.fn.trail.hasher;
      digests : l.digests ++ map (own_digest hash l.secrets l.party) (drop l.name-index l.names) ≡ map (own_digest hash l.secrets l.party) l.names;
      trail : Hashed hash l.fn.trail.messages l.trail.messages (map (own_string l.secrets l.party) (take l.name-index l.names));
    }
