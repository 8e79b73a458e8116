use Rattle.std.proofs.Common.{◌≡◌, ◌++◌, map, drop}
use Rattle.std.specs.Prelude.{filter}
use Rattle.spec_deal.specs.SecretFile.{has_length}
use Rattle.deal_follow.specs.Seen.{item_in, hashed_items}
use Rattle.deal_follow.proofs.hashing.put_digests.Given as goal

abbrev pub invariant-loop-bytes : goal.invariant-loop-bytes
invariant-loop-bytes g l =
    let hash = g.H.Hash32.digest_of l.hasher in
    map item_in l.all.items ++ hashed_items hash (filter has_length (drop l.bytes-index l.items))
    ≡ map item_in l.fn.all.items ++ hashed_items hash (filter has_length l.items)
