use Rattle.std.proofs.Common.{◌≡◌, ◌++◌, map, take, drop}
use Rattle.bm_hash.specs.Trails.{Hashed}
use Rattle.bm_world_board.specs.Accounts.{named_key, label_string}
use Rattle.bm_world_board.proofs.accounts.keys_of.Given as goal

abbrev pub invariant-loop-party : goal.invariant-loop-party
invariant-loop-party g l =
    let hash = g.H.Hash32.digest_of l.fn.trail.hasher in
    record {
      hasher : l.trail.hasher ≡ l.fn.trail.hasher;
      keys : l.named ++ map (named_key hash) (drop l.party-index l.parties) ≡ map (named_key hash) l.parties;
      trail : Hashed hash l.fn.trail.messages l.trail.messages (map label_string (take l.party-index l.parties));
    }
