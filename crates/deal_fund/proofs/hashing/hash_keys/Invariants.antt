use Rattle.std.proofs.Common.{◌≡◌, take}
use Rattle.std.specs.List.{flat_map}
use Rattle.bm_hash.specs.Trails.{Hashed}
use Rattle.deal_fund.specs.Told.{key_strings}
use Rattle.deal_fund.proofs.hashing.hash_keys.Given as goal

abbrev pub invariant-loop-party : goal.invariant-loop-party
invariant-loop-party g l =
    let hash = g.H.Hash32.digest_of l.fn.trail.hasher in
    record {
      hasher : l.trail.hasher ≡ l.fn.trail.hasher;
      trail : Hashed hash l.fn.trail.messages l.trail.messages (flat_map (key_strings l.part) (take l.party-index l.parties));
    }
